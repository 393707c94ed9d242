pub mod Escaping
pub mod Documents
pub mod Forms
pub mod Posting
