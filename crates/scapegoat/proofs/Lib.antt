pub mod Climbing
pub mod Ranks
