-- The lemmas that proofs of other crates may cite.
pub mod Ascending
pub mod Better
pub mod CellsLemmas
pub mod Each
pub mod Earned
pub mod EntryOrder
pub mod Falling
pub mod FirstLemmas
pub mod Members
pub mod Numerals
pub mod Occurring
pub mod RankingLemmas
pub mod RecordLemmas
pub mod Written
pub mod Tests
pub mod CellPlaces
pub mod Subsequences
