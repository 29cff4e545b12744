pub mod Fields
pub mod Flows
pub mod Keeps
pub mod Messages
pub mod Moves
pub mod OneWay
pub mod Sized
