pub mod Refusals
pub mod First
