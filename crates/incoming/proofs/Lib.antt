pub mod Passing
pub mod Arrivals
