pub mod MembersCode
pub mod Claims
pub mod Kinds
pub mod Reading
pub mod Fitting
pub mod Building
pub mod Wrapped
pub mod Laws
