pub mod Supersets
pub mod Entries
pub mod Occurrences
pub mod Laws
pub mod Worked
