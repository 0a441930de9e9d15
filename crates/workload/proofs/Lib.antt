pub mod StableSort
pub mod MapLemmas
