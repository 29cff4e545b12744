pub mod Every
pub mod Pick
pub mod Refusal
pub mod Answer
