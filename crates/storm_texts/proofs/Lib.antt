pub mod Accepted
pub mod Configured
pub mod LineSteps
pub mod Next
pub mod PrintedLines
mod Samples
