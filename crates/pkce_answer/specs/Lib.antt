pub mod Challenges
pub mod Around
pub mod Answering
pub mod Laws
