pub mod Steps
pub mod Unions
pub mod Covering
pub mod Emptiness
pub mod Turns
