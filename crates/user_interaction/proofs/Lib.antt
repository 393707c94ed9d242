pub mod Needing
mod Samples
