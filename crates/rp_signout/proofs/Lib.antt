pub mod Looking
pub mod Asking
pub mod Committing
pub mod PostedQuestions
pub mod Samples
