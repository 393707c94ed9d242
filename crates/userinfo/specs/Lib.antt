pub mod Held
pub mod Header
pub mod Request
pub mod Answer
pub mod Laws
