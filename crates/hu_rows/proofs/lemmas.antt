-- The lemmas that proofs of other crates may cite.
pub mod Narrowed
pub mod Handed
pub mod Bounded
pub mod Counted
