pub mod Rule
pub mod Query
