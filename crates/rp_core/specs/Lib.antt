pub mod Relying
pub mod Agreeing
pub mod Making
pub mod Keeping
