pub mod Apart
pub mod Issued
pub mod Refusals
mod Samples
