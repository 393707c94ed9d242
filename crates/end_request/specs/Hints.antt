-- ID Tokens as hints: the client of a hint, of those that the request may be of (RP-Initiated Logout 1.0, 2 and 4).
use Rattle.std.specs.Prelude.{◌≡◌, ℕ, ◌+◌, Bool, true, false, ◌&&◌, ◌==◌, List, [], ◌∷◌, Option, Some, None, Result, Ok, Err, if◌then◌else◌}
use Rattle.std.specs.Str.{bytes_eq}
use Rattle.sso_base.specs.Words.{Text}
use Rattle.sso_base.specs.Texts.{has_text}
use Rattle.client_registry.specs.declared.records.Client.{Client}
use Rattle.client_registry.specs.Secrets.{has_secret}
use Rattle.client_keys.specs.Opening.{opening}
use Rattle.id_token.specs.declared.claims.IdClaims.{IdClaims}
use Rattle.id_token.specs.declared.no.IdNo.{IdNo}
use Rattle.id_token.specs.Reading.{id_read}
use Rattle.id_token.specs.Token.{IsIdToken}

-- the ID Token in a text of the client, under either of its secrets
abbrev pub id_read_for : Client → Text → Result IdClaims IdNo
id_read_for client text = id_read (opening client text) text

-- it is one of the issuer for the client; whether it has expired does not matter
abbrev pub is_for : Text → Text → Result IdClaims IdNo → Bool
is_for issuer id (Ok claims) = bytes_eq claims.iss issuer && has_text id claims.aud
is_for issuer id (Err why) = false

abbrev pub is_hint_for : Text → Text → Client → Bool
is_hint_for issuer hint client = is_for issuer client.id (id_read_for client hint)

-- the audience that a text names has the client
abbrev pub names : Option (List Text) → Text → Bool
names None id = false
names (Some aud) id = has_text id aud

-- the request names this client, or none
abbrev pub may_be : Option ℕ → ℕ → Bool
may_be None n = true
may_be (Some m) n = n == m

abbrev pub fits : Text → Option ℕ → Text → ℕ → Client → Bool
fits issuer named hint n client = may_be named n && is_hint_for issuer hint client

-- the first client that fits, from a number on
abbrev pub fitting_from : Text → Option ℕ → Text → ℕ → List Client → Option ℕ
fitting_from issuer named hint n [] = None
fitting_from issuer named hint n (client ∷ clients) =
    if fits issuer named hint n client then Some n else fitting_from issuer named hint (n + 1) clients

-- ---- the same, stated literally

-- the text is an ID Token of the issuer for the client, sealed under a secret of the client
pub record IsHint (issuer : Text) (client : Client) (hint : Text) : Type 0 where
  pub secret : Text
  pub own : has_secret secret client ≡ true
  pub claims : IdClaims
  pub token : IsIdToken secret hint claims
  pub issued : claims.iss ≡ issuer
  pub audience : has_text client.id claims.aud ≡ true
