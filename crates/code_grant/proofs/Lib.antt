pub mod Redemptions
mod Samples
pub mod SecondUses
pub mod Granting
