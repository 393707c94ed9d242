pub mod LogoutToken
pub mod Token
pub mod Judging
pub mod Fitting
pub mod Laws
