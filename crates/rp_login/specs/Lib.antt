pub mod Calls
pub mod Named
pub mod Room
pub mod Rows
pub mod Tables
pub mod Laws
