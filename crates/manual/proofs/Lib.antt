pub mod BitsLaws
pub mod ManualLaws
pub mod Shifts
