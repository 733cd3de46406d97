-- Read in this order.
pub mod Text
pub mod Grammar
pub mod Listing
pub mod Buslog
pub mod Parse
pub mod Fields
pub mod Puts
