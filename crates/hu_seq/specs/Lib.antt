pub mod Token
pub mod Reading
pub mod Itemset
pub mod Canonical
pub mod Worked
