pub mod Packets
pub mod Keeps
pub mod Sends
