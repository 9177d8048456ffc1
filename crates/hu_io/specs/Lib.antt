pub mod Count
pub mod Files
pub mod State
pub mod Plan
pub mod MemoryFiles
pub mod MemorySink
pub mod Sure
pub mod Edge
