pub mod Groups
pub mod Members
