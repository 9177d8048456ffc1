-- The lemmas that proofs of other crates may cite.
pub mod CutLemmas
pub mod HeldLemmas
pub mod LimitLemmas
pub mod PieceLemmas
