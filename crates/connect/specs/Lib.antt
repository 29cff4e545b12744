pub mod Spans
pub mod Read
pub mod Write
