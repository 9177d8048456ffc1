-- The lemmas that proofs of other crates may cite.
pub mod AddingLemmas
pub mod AfterLemmas
pub mod DenseLemmas
pub mod KeptLemmas
pub mod Lists
pub mod RankingRules
pub mod RecordCells
pub mod RoomLemmas
pub mod SortedLists
pub mod WeightLemmas
pub mod GainLemmas
