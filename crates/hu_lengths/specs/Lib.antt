pub mod Lengths
pub mod Laws
pub mod LengthsOnly
pub mod Bound
pub mod Worked
