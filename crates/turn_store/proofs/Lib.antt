pub mod Totals
pub mod Keeping
pub mod Steps
pub mod Passing
pub mod Dealing
pub mod Ending
pub mod Moving
pub mod Sharing
mod Samples
