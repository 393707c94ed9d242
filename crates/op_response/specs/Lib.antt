pub mod Cookies
pub mod Pages
pub mod Lines
pub mod FullPages
pub mod Telling
pub mod Told
pub mod Laws
