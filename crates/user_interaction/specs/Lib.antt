pub mod Need
pub mod Answerable
pub mod Laws
