pub mod RelayTests
pub mod Take
pub mod HandOut
