-- The lemmas that proofs of other crates may cite.
pub mod ClosedLemmas
pub mod Closedness
pub mod PlaceLists
pub mod RankLemmas
