pub mod Conditions
pub mod InTime
pub mod Alive
pub mod Login
pub mod Outcome
pub mod OwnWish
pub mod Shown
pub mod Laws
