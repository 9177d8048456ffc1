pub mod Children
pub mod Level
