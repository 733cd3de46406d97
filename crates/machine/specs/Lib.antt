-- Read in this order.
pub mod Poll
pub mod Transfer
pub mod Flush
