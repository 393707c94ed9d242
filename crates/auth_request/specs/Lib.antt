pub mod Parameters
pub mod ClaimsParameter
pub mod NamedSubjects
pub mod Judgement
pub mod Granted
pub mod Values
pub mod Laws
