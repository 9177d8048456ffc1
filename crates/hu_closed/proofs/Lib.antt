pub mod lemmas
mod Numbers
mod Adding
pub mod KeyLemmas
mod Pairs
mod Tries
mod ListTests
mod HolderRecords
mod Rest
mod SetLemmas
mod PartLemmas
