pub mod Needed
pub mod Session
pub mod Whole
