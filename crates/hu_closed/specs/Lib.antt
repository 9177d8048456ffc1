pub mod Keys
pub mod Places
pub mod Holders
pub mod Found
pub mod Candidates
pub mod ClosedOnly
pub mod Worked
