pub mod KeyLengths
pub mod SizedLemmas
