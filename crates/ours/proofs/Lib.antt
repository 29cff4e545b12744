pub mod Bodies
pub mod Calls
