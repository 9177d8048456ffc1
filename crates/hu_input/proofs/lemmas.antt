-- The lemmas that proofs of other crates may cite.
pub mod Lawful
pub mod Parts
