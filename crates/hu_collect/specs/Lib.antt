pub mod Rule
pub mod State
pub mod Ranks
pub mod Laws
pub mod Pairs
pub mod Top
pub mod Limited
pub mod Worked
