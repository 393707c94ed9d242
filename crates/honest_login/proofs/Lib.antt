pub mod Entering
pub mod FromBrowser
pub mod FromServer
pub mod Going
pub mod NextPlace
pub mod Onward
pub mod Thread
