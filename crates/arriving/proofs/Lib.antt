pub mod Stays
pub mod Arrivals
pub mod Keeps
pub mod Effects
pub mod StepsStay
