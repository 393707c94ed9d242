pub mod Answering
pub mod Claims
pub mod ConsentedClaims
pub mod Consenting
pub mod FrontTokens
pub mod GivenTokens
pub mod Giving
pub mod Messages
pub mod OwnServers
mod OwnToken
pub mod Places
pub mod Reaching
pub mod Sessions
pub mod WrittenTokens
