pub mod Spelling
pub mod Rising
pub mod Decoding
pub mod Same
pub mod Replacing
pub mod Sums
pub mod Increasing
pub mod BlindSums
