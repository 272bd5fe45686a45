pub mod Graph
pub mod Lists
pub mod Steps
