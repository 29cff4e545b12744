pub mod Lines
pub mod Keeps
