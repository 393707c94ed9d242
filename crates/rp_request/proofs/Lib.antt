pub mod Parties
pub mod Opened
pub mod Refused
pub mod Routing
pub mod Callbacks
pub mod TokenAnswers
pub mod InfoAnswers
pub mod Logouts
pub mod LogoutTokens
pub mod PreparedAsks
mod Samples
