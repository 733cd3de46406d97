pub mod RunLaws
pub mod RunDepends
pub mod RunUnlimited
pub mod Unlimited
pub mod Places
pub mod Calls
pub mod DriveLaws
mod FlushLaws
mod PlainLaws
mod WordlessLaws
mod CallRunLaws
mod TurnLaws
