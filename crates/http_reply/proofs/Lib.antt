pub mod Characters
pub mod Reading
pub mod Pieces
pub mod Names
mod Samples
