pub mod Routes
pub mod PostedForms
pub mod Prepared
pub mod Requests
pub mod Laws
