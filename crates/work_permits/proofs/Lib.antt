pub mod Counting
pub mod Sharing
mod Samples
