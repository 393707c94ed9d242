pub mod Answering
pub mod Ascii
pub mod Splits
pub mod Objects
pub mod Opening
pub mod Readers
pub mod Written
pub mod OnLiterals
mod Samples
