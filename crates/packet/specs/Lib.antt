pub mod Acks
pub mod Read
pub mod Write
