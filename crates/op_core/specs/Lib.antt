pub mod Keeps
pub mod Providing
pub mod Making
pub mod Outcome
pub mod FormReplies
