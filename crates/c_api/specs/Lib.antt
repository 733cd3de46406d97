-- Read in this order.
pub mod Host
pub mod HostRun
pub mod HostCall
pub mod HostBus
