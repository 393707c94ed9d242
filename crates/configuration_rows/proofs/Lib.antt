pub mod Lists
pub mod Order
pub mod Phases
pub mod Numbers
pub mod Noting
pub mod Addresses
pub mod ArrayRows
pub mod FittingClaims
pub mod PlainTexts
mod Samples
