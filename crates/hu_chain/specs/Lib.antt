pub mod Pattern
pub mod Grown
pub mod Place
pub mod Bound
pub mod Search
pub mod Worked
