pub mod Parsing
pub mod Puts
pub mod Texts
pub mod KindLaws
pub mod Lookups
pub mod Fitting
pub mod Order
pub mod PutClaims
pub mod Building
pub mod Sizes
pub mod PlainTexts
pub mod Costs
pub mod Written
pub mod OnLiterals
pub mod Ordered
mod Samples
