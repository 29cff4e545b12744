pub mod Book
pub mod Closing
pub mod Shape
pub mod Resting
pub mod Marks
pub mod Parts
