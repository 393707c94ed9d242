pub mod Numbers
pub mod Places
pub mod Reaching
pub mod Wishes
pub mod Fragments
pub mod Judgements
pub mod AskedNames
pub mod NamedSubjects
mod Samples
