pub mod LeastWeight
pub mod Sample
mod Samples
