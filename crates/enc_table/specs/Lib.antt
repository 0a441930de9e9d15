-- The definitions that the contracts of this crate and of those above it cite.
pub mod Seen
pub mod Rows
pub mod Sums
pub mod Stored
pub mod Held
pub mod Marking
pub mod Fields
