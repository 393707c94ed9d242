pub mod Characters
pub mod ScopeTexts
pub mod CookieLaws
pub mod ReplyLaws
pub mod FormLaws
pub mod PostedForms
pub mod LineLaws
mod Samples
