pub mod lemmas
pub mod KeyLemmas
pub mod OpenLemmas
mod SlotLemmas
