-- Read in this order.
pub mod Unready
pub mod Listed
pub mod AccessBill
