-- The definitions that the contracts of this crate and of those above it cite.
pub mod Bounds
pub mod Plans
pub mod Readings
pub mod Laws
pub mod Walks
