pub mod Partners
pub mod StartFloor
pub mod View
pub mod Sums
pub mod OverRanks
pub mod Rests
pub mod Laws
pub mod Worked
