-- Read in this order.
pub mod Values
pub mod Calls
pub mod ClockSet
