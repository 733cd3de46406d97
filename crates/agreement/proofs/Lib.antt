pub mod ShownLaws
pub mod WordLists
pub mod QueueLaws
mod RecoveryFacts
pub mod EndFacts
mod WireFacts
mod PairFacts
pub mod SettleFacts
mod FinishFacts
pub mod StartFacts
pub mod Demand3
pub mod CourseFacts
