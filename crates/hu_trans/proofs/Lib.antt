pub mod lemmas
mod CellLemmas
mod CanonicalLemmas
mod JudgedLemmas
mod LineLemmas
mod NumbersLemmas
mod NumeralLemmas
mod ReadingLemmas
mod SumsLemmas
mod WriteLemmas
mod WrittenLemmas
