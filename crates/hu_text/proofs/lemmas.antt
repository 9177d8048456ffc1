-- The lemmas that proofs of other crates may cite.
pub mod Lines
pub mod Words
pub mod Texts
pub mod Entries
pub mod Inputs
pub mod RecordTexts
