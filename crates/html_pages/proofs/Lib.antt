pub mod EscapedTexts
pub mod PostedTags
pub mod Slices
pub mod Pushes
pub mod ShownReplies
mod Samples
