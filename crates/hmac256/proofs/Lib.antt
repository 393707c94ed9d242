pub mod Differences
pub mod Facts
pub mod Keys
pub mod OnLiterals
pub mod Rounds
pub mod Xor
pub mod Samples
