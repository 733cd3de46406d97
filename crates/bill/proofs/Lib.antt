mod UnreadyLaws
pub mod RunBill
pub mod RunListed
pub mod BillLaws
