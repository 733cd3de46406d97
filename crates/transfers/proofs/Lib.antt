pub mod CallLaws
pub mod TransferLaws
mod BeginLaws
mod EntryLaws
