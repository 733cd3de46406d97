-- Read in this order.
pub mod Driver
pub mod Access
pub mod Settings
pub mod Status
pub mod Sequence
pub mod Recovery
pub mod Call
