pub mod lemmas
pub mod Endings
pub mod Places
pub mod Finding
mod Tails
mod Turns
