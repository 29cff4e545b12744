pub mod Line
pub mod Sides
pub mod Mode
pub mod Fit
pub mod Shape
pub mod Figures
pub mod Part
