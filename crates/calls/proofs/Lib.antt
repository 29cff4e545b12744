pub mod Accepted
pub mod FirstStops
pub mod FirstTests
pub mod Lent
pub mod OrderStages
pub mod Refusing
pub mod Results
pub mod Stops
