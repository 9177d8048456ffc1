pub mod lemmas
mod PartLemmas
mod InputLemmas
mod IntakeLemmas
mod FrontLemmas
mod FileLemmas
mod WholeLemmas
mod NamesLemmas
mod ContentLemmas
