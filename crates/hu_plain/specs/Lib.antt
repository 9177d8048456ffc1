pub mod Row
pub mod View
pub mod Grown
pub mod Place
pub mod Growth
pub mod PlaceView
