pub mod Meaning
pub mod Operations
pub mod Outcomes
pub mod Slots
pub mod Recorded
pub mod Examples
