pub mod Bytes
pub mod Format
pub mod Trees
pub mod Entries
pub mod Rules
pub mod Steps
pub mod Lists
