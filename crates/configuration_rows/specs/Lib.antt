pub mod Refusals
pub mod Paths
pub mod Values
pub mod Claims
pub mod Versions
pub mod Kinds
pub mod Rows
