pub mod NumberLaws
mod PairLaws
pub mod AnswerLaws
pub mod HostAgreement
pub mod HostBill
pub mod HostTolerance
