pub mod PartNames
pub mod TakenInOrder
pub mod HeardParts
pub mod Written
pub mod TokenParams
pub mod OwnQueries
pub mod OnLiterals
mod Samples
