pub mod NameLaws
pub mod Values
pub mod Repeated
pub mod InOrder
pub mod Requests
pub mod Lossy
pub mod Forms
pub mod OnLiterals
pub mod Printed
pub mod MergeLaws
pub mod Whole
pub mod Splits
pub mod Schemes
mod Samples
