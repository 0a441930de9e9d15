-- The definitions that the contracts of this crate and of those above it cite.
pub mod Faults
pub mod InMemory
pub mod Lists
pub mod Modes
pub mod OverStd
pub mod ReadAll
pub mod StatusCode
pub mod WriteAll
