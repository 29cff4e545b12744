pub mod Channel
pub mod Distance
pub mod Sizes
