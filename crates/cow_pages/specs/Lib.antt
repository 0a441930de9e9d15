-- The definitions that the contracts of this crate cite.
pub mod Counts
pub mod Edits
pub mod Lists
pub mod Nodes
pub mod PagesFall
pub mod Parts
pub mod Rooted
pub mod Search
