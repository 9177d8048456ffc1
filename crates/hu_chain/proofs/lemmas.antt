-- The lemmas that proofs of other crates may cite.
pub mod Bounds
pub mod Cells
pub mod Gathered
pub mod Growing
pub mod Patterns
pub mod Reached
