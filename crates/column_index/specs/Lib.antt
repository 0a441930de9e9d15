-- The definitions that the contracts of this crate and of those above it cite.
pub mod Entries
pub mod Fronts
pub mod Laws
pub mod Ranges
pub mod Recoding
pub mod Seen
