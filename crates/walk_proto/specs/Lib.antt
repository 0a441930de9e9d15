pub mod Faults
pub mod Kinds
pub mod Rules
pub mod Spelling
pub mod Shapes
pub mod Laws
