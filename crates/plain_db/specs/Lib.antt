pub mod Laws
pub mod Positions
pub mod Answerable
pub mod Trying
pub mod TakingBack
pub mod Running
pub mod Turned
pub mod Reached
