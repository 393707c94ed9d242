pub mod Keeps
pub mod Renewing
pub mod Beginning
pub mod Prepared
