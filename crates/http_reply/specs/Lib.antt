pub mod Cookies
pub mod UserAgent
pub mod Replies
pub mod Told
