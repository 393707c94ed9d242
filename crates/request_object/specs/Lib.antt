pub mod Request
pub mod Sealing
pub mod Reading
pub mod Object
pub mod Laws
