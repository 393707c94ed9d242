pub mod Base64
pub mod Basic
pub mod Authentication
pub mod Request
pub mod Granted
pub mod Errors
pub mod Answer
pub mod Laws
