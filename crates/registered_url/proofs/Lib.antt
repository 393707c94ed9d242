pub mod Keeping
pub mod PathBelow
pub mod Below
mod Samples
