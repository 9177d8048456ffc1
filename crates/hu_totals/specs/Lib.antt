pub mod Totals
pub mod Adding
pub mod Cells
pub mod Ranked
pub mod Weights
pub mod View
pub mod Laws
pub mod Worked
