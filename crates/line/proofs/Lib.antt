pub mod Keeps
pub mod Shape
pub mod Part
pub mod Same
