pub mod Parameters
pub mod Laws
pub mod RequestLaws
