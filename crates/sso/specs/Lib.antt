pub mod Answer
pub mod Asked
pub mod Ends
pub mod Outcomes
pub mod Refused
pub mod SignOn
pub mod Statuses
