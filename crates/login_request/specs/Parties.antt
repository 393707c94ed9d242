-- The precondition for a request of a party to a provider.
use Rattle.std.specs.Prelude.{◌≤◌, ◌<◌, ℕ, length}
use Rattle.std.specs.Str.{IsUtf8}
use Rattle.sso_base.specs.Words.{Word, Text, IsWord}
use Rattle.client_registry.specs.Configuration.{Configuration}
use Rattle.client_registry.specs.Registered.{IsRegistry}

-- a party of the registry can send a request to a provider with this issuer, with this state and nonce: they are values of
-- their types, and the issuer is within the length limit of a registry
pub record MayAsk (c : Configuration) (n : ℕ) (issuer : Text) (state nonce : Word) : Type 0 where
  pub registry : IsRegistry c
  pub party : n < length c.parties
  pub issuer_text : IsUtf8 issuer
  pub short_issuer : length issuer ≤ 200
  pub state_word : IsWord state
  pub nonce_word : IsWord nonce
