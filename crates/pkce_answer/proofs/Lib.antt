pub mod Refusing
pub mod Redeeming
pub mod OneRequest
pub mod Histories
mod LoginSample
pub mod Samples
