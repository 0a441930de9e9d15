pub mod Codes
pub mod Ways
pub mod Laws
pub mod Moves
pub mod Sums
pub mod SumLaws
