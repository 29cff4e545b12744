pub mod Idle
pub mod Quick
pub mod Careless
pub mod Sharp
