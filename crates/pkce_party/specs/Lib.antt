pub mod Verifiers
pub mod Adding
pub mod Keeping
pub mod Noting
pub mod Telling
pub mod Inside
pub mod Laws
