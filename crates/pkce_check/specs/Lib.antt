pub mod Reading
pub mod Prepared
pub mod Keeps
