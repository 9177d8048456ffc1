pub mod lemmas
mod AnswerLemmas
mod LookupLemmas
