pub mod Places
pub mod Rows
pub mod Around
pub mod Families
pub mod Answering
pub mod Laws
