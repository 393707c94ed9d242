pub mod Decimals
pub mod Flat
pub mod Laws
mod Samples
