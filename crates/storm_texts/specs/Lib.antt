pub mod Config
pub mod Lines
pub mod Logins
pub mod Parties
pub mod Trace
pub mod Laws
