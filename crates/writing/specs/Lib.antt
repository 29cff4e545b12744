pub mod Write
pub mod Send
