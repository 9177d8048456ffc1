pub mod Growth
pub mod Children
pub mod Slots
