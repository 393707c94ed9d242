mod AliveSamples
pub mod Conditions
pub mod OwnWish
pub mod OwnWishValue
pub mod OwnWords
pub mod Persisting
pub mod Standing
pub mod Worlds
