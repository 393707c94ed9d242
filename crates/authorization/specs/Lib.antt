pub mod Consented
pub mod Authorized
pub mod Reached
pub mod Laws
