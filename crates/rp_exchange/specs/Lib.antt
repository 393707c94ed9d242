pub mod Asks
pub mod Values
pub mod Weight
pub mod Held
