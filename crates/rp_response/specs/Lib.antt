pub mod Cookies
pub mod Page
pub mod Refusals
pub mod FullPages
pub mod Lines
pub mod Telling
pub mod Told
pub mod Laws
