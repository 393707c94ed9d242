pub mod Calls
pub mod Consents
pub mod Redeeming
pub mod Room
pub mod Rows
pub mod Tables
pub mod Laws
