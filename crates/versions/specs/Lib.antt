-- The definitions that the contracts of this crate and of those above it cite.
pub mod Databases
pub mod Inside
pub mod Operations
pub mod Changes
pub mod Turns
pub mod Newer
pub mod Summed
pub mod Drafts
pub mod Examples
