-- What a client of the provider requires of an ID Token (OpenID Connect Core 1.0, 3.1.3.7, 3.2.2.9 and 3.3.2.10).
use Rattle.std.specs.Prelude.{ℕ, Option, Some, None}
use Rattle.sso_base.specs.Words.{Word, Text, word_text}
use Rattle.client_registry.specs.Configuration.{Configuration}
use Rattle.client_registry.specs.Numbers.{client_id}
use Rattle.id_token.specs.declared.rules.Half.{Half}
use Rattle.id_token.specs.declared.rules.Half.TheVariants.{Free, Must}
use Rattle.id_token.specs.declared.rules.IdRules.{IdRules}
use Rattle.id_token.specs.HalfHash.{half_hash_of}

-- the half digest of the word is present, if the token came with one
abbrev pub bound_to : Option Word → Half
bound_to None = Free
bound_to (Some w) = Must (half_hash_of (word_text w))

-- the rules of the client with a number, for a login with this nonce, this start and optionally a `max_age`, and for a token
-- that optionally came with an access token and a code
abbrev pub client_rules : Configuration → ℕ → Text → ℕ → Option ℕ → Option Word → Option Word → IdRules
client_rules c client nonce begun max_age access code =
    record {
      issuer = c.provider.issuer;
      client = client_id c client;
      nonce = nonce;
      begun = begun;
      max_age = max_age;
      token = bound_to access;
      code = bound_to code;
    }
