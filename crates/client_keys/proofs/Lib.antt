pub mod EachKey
pub mod Opened
mod Samples
