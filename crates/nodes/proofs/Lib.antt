pub mod Measured
pub mod Limits
pub mod Forest
pub mod Growth
pub mod Held
