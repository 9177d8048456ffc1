pub mod Engine
pub mod Start
