-- A run on one thread, one exchange a step.
pub mod Outcomes
pub mod Cores
pub mod Shown
pub mod Sittings
pub mod Inside
pub mod Stored
pub mod Endings
