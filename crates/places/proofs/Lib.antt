pub mod Bits
pub mod Masks
pub mod Ranks
pub mod Walks
