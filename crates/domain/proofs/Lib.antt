pub mod Growth
pub mod Outcomes
pub mod Layers
pub mod Fills
pub mod Examples
