pub mod Looking
pub mod Committing
pub mod Samples
