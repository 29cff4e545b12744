pub mod Lists
mod Marks
pub mod Steps
