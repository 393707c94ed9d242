pub mod CallLaws
pub mod NamedEnds
mod Samples
