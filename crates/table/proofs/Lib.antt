pub mod Reading
pub mod Headed
pub mod Last
pub mod Single
pub mod Exact
pub mod Spanned
