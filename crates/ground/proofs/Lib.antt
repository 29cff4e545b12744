pub mod Either
pub mod Every
pub mod Numbers
pub mod Picks
pub mod Settled
pub mod Verdicts
