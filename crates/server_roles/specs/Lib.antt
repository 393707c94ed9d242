pub mod Ends
pub mod Roles
pub mod Rounds
pub mod ReadBack
