pub mod Pieces
mod Samples
