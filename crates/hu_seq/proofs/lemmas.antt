-- The lemmas that proofs of other crates may cite.
pub mod Cuts
pub mod Firsts
pub mod Written
pub mod Lawful
