pub mod Block
pub mod Cipher
pub mod Vectors
