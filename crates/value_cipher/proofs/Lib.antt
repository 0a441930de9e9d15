mod BlockLemmas
pub mod CipherLemmas
