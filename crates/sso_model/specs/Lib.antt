pub mod Founded
pub mod Lists
pub mod Machine
pub mod Named
pub mod Rows
pub mod Laws
