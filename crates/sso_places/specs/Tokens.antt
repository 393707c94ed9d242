-- Tokens as text, each with the number of the client whose secret is its key (OpenID Connect Core 1.0, 10.1). If a client has
-- two secrets, the key is one of them.
use Rattle.std.specs.Prelude.{ℕ, Bool, false, ◌==◌, ◌&&◌, ◌||◌, List, [], ◌∷◌, Option, Some, None, is_some}
use Rattle.std.specs.Result.{result_ok}
use Rattle.std.specs.Str.{bytes_eq}
use Rattle.sso_base.specs.Words.{Text}
use Rattle.jws_compact.specs.Jws.{verdict}
use Rattle.client_registry.specs.declared.records.Client.{Client}
use Rattle.client_registry.specs.Configuration.{Configuration}
use Rattle.client_registry.specs.Numbers.{client_at}

abbrev pub TokenText : Type 0
TokenText = ℕ × Text

abbrev pub is_token : TokenText → TokenText → Bool
is_token t u = (u.0 == t.0) && bytes_eq u.1 t.1

-- the token's MAC is valid under this key (RFC 7515, 5.2)
abbrev pub is_sealed : Text → Text → Bool
is_sealed key text = is_some (result_ok (verdict key text))

abbrev pub is_sealed_old : Option Text → Text → Bool
is_sealed_old None text = false
is_sealed_old (Some old) text = is_sealed old text

-- the MAC is valid under a secret of the client, if there is such a client
abbrev pub is_sealed_by : Option Client → Text → Bool
is_sealed_by None text = false
is_sealed_by (Some client) text = is_sealed client.secret text || is_sealed_old client.old_secret text

abbrev pub is_sealed_for : Configuration → TokenText → Bool
is_sealed_for c t = is_sealed_by (client_at c t.0) t.1

-- the one token, if there are a client and a text
abbrev pub token_if : Option ℕ → Option Text → List TokenText
token_if (Some client) (Some text) = (client, text) ∷ []
token_if client text = []
