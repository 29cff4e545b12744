pub mod Call
pub mod Order
pub mod Stages
pub mod Result
