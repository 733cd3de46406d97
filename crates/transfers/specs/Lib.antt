-- Read in this order.
pub mod Transfers
pub mod Begin
