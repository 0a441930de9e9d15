pub mod Changes
pub mod Columns
pub mod Laws
pub mod Removal
pub mod RemovalLaws
pub mod Normal
pub mod Compositions
pub mod CompositionLaws
