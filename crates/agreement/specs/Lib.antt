-- Read in this order.
pub mod Start
pub mod End
pub mod Events
pub mod Course
pub mod Tally
pub mod Agreement
pub mod Codes
