pub mod Standing
pub mod Documents
pub mod Utf8
pub mod Fitting
pub mod Printed
mod Samples
