pub mod Clashes
pub mod FirstBroken
pub mod Lists
pub mod LoginByCode
pub mod Merging
pub mod Messages
pub mod Numbers
pub mod Objects
pub mod Places
mod Samples
pub mod Sharing
pub mod SmallSite
pub mod Story
pub mod Unshared
