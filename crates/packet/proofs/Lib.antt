pub mod Writes
pub mod Tests
