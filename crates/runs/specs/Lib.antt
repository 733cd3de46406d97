-- Read in this order.
pub mod Run
pub mod Flush
pub mod Call
pub mod Unlimited
pub mod Drive
-- only private contracts cite these
pub mod Running
pub mod Flushing
pub mod Turns
