pub mod Request
pub mod Parties
pub mod Laws
