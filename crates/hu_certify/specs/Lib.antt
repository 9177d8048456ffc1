pub mod Text
pub mod Spots
pub mod Slots
pub mod Table
pub mod Written
pub mod Worked
pub mod Laws
