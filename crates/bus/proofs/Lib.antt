mod FifoLaws
pub mod QueuedLaws
mod PairLaws
mod RunLaws
mod BeginLaws
mod TrialLaws
pub mod ByteLaws
