pub mod Ranges
pub mod Bounds
pub mod Tells
pub mod Decides
pub mod Depends
