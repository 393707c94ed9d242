pub mod ForgetRuns
pub mod FoundedRuns
pub mod ListLaws
pub mod NamedEnds
pub mod OnceRuns
pub mod RunLaws
pub mod Steps
