pub mod Numbers
pub mod WordLaws
pub mod BufferLaws
pub mod LaidLaws
pub mod CommandLaws
pub mod ClockLaws
pub mod ToleranceLaws
mod ElementLaws
