pub mod Rule
pub mod Steps
pub mod Permitted
pub mod Gates
