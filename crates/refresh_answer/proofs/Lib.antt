pub mod Answered
pub mod Families
pub mod Steps
pub mod Current
pub mod Once
pub mod Clients
pub mod Passed
pub mod Unchanged
mod ReuseSample
mod Samples
