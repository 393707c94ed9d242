pub mod Returning
pub mod Hints
pub mod Ending
