pub mod Questions
pub mod Around
pub mod Answering
pub mod Laws
