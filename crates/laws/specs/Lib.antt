pub mod Reached
pub mod Contract
pub mod LineCalls
