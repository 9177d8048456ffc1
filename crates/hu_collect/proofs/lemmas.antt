-- The lemmas that proofs of other crates may cite.
pub mod Cutting
pub mod Floor
pub mod Made
pub mod Searching
