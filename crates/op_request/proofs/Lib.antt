pub mod SignedUsers
pub mod Routing
pub mod FormFields
pub mod LedTo
pub mod RepeatedNames
pub mod PasswordsShown
pub mod GrantedWishes
pub mod PreparedAsks
mod Samples
