pub mod LevelLemmas
pub mod ChoiceLemmas
pub mod PreparedLemmas
pub mod TurnLemmas
pub mod FirstLevel
