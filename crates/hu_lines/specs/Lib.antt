pub mod Pieces
pub mod Limits
pub mod Skipped
pub mod Lines
pub mod Cuts
pub mod Held
pub mod Laws
pub mod Worked
