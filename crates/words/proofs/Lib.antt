pub mod Hex
pub mod Values
