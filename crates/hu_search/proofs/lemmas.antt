-- The lemmas that proofs of other crates may cite.
pub mod Children
pub mod Slots
pub mod RankedPatterns
pub mod UnrankLemmas
pub mod ItemsAt
