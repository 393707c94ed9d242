pub mod SpelledTexts
pub mod RegistryRows
pub mod Sealable
pub mod GoodTokens
pub mod SmallRegistry
mod Samples
pub mod Identifiers
pub mod LogoutSealable
pub mod GoodLogouts
pub mod MessagesTold
pub mod LogoutForms
pub mod OpenedTexts
mod LogoutSamples
