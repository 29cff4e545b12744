pub mod Arrive
pub mod Effect
