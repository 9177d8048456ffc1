pub mod lemmas
pub mod ItemKeys
pub mod LawLemmas
