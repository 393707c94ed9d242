pub mod Keeps
pub mod Pages
pub mod Posted
pub mod Prepared
pub mod Reading
