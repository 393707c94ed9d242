pub mod Routes
pub mod Opened
pub mod Prepared
pub mod Requests
pub mod Laws
