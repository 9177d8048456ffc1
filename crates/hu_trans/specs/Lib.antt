pub mod Line
pub mod Reading
pub mod Canonical
pub mod Worked
