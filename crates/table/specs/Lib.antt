pub mod Format
pub mod Contents
pub mod Tables
pub mod Exact
pub mod Spans
pub mod Worked
