-- The lemmas that proofs of other crates may cite.
pub mod Ranked
pub mod Answers
pub mod Fronts
pub mod Picks
pub mod Sums
pub mod Tests
pub mod Closed
pub mod AnyOrder
pub mod Occurrences
pub mod Sequences
