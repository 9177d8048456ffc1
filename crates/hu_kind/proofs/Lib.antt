pub mod lemmas
pub mod TokenLemmas
mod ReadLemmas
