pub mod Joining
pub mod Windows
pub mod Positions
