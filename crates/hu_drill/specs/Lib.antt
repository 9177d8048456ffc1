pub mod Draws
pub mod Drilled
pub mod Summary
pub mod Worked
