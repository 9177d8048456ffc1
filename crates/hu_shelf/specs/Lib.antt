pub mod Store
pub mod Laws
pub mod Worked
pub mod Keeper
pub mod MemoryKeeper
pub mod DiskKeeper
pub mod Shelf
pub mod Settings
