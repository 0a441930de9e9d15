pub mod Codes
pub mod Fronting
pub mod Orders
pub mod Points
pub mod Ranging
pub mod Recodings
pub mod Sorting
pub mod Whole
