pub mod Octets
pub mod Slots
pub mod Parts
