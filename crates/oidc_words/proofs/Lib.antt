pub mod Spacing
pub mod Joining
pub mod Covering
pub mod ErrorCodes
pub mod ErrorTexts
pub mod LivesFit
pub mod Asking
pub mod ClaimKinds
pub mod ScopeTexts
pub mod TypeTexts
pub mod Routing
mod Samples
