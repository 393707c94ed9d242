pub mod Header
pub mod Jws
pub mod Names
pub mod Wrapped
