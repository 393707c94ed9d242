pub mod CookieNames
pub mod CookieLaws
pub mod ReplyLaws
pub mod LineLaws
mod Samples
