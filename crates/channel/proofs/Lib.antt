pub mod Distances
pub mod NoSizes
pub mod Windows
