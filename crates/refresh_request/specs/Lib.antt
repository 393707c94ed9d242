pub mod Reading
pub mod Offline
pub mod Printing
