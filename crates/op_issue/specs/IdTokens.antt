-- The ID Tokens of the provider (OpenID Connect Core 1.0, 2, 3.1.3.6, 3.2.2.10, 3.3.2.11 and 5.4).
use Rattle.std.specs.Prelude.{ℕ, ◌+◌, Bool, not, ◌&&◌, [], ◌∷◌, Option, Some, None, option_map, if◌then◌else◌}
use Rattle.sso_base.specs.Words.{Word, Text, word_text}
use Rattle.oidc_words.specs.declared.response_types.Types.{Types}
use Rattle.client_registry.specs.Configuration.{Configuration, subject_at}
use Rattle.client_registry.specs.Numbers.{client_id, client_sealing}
use Rattle.oidc_words.specs.declared.scopes.Scopes.{Scopes}
use Rattle.oidc_words.specs.Scopes.{no_scopes}
use Rattle.oidc_words.specs.Lives.{id_token_life}
use Rattle.auth_request.specs.declared.wish.Wish.{Wish}
use Rattle.userinfo.specs.Held.{held_members}
use Rattle.id_token.specs.declared.claims.IdClaims.{IdClaims}
use Rattle.id_token.specs.HalfHash.{half_hash_of}
use Rattle.id_token.specs.Sealing.{id_text}
use Rattle.op_issue.specs.declared.issuing.Authentication.{Authentication}

abbrev pub hash_of : Option Word → Option Text
hash_of word = option_map (λ w. half_hash_of (word_text w)) word

-- only an ID Token without any access token has the claims of the scope values (Core 5.4)
abbrev pub is_id_alone : Types → Bool
is_id_alone types = types.id_token && not types.code && not types.token

abbrev pub id_scopes : Wish → Scopes
id_scopes wish = if is_id_alone wish.types then wish.scopes else no_scopes

-- the claims of an ID Token, which optionally comes with an access token and a code
unfoldable pub id_claims : Configuration → Wish → Authentication → ℕ → Option Word → Option Word → IdClaims
id_claims c wish who at access code =
    record {
      iss = c.provider.issuer;
      sub = subject_at c wish.client who.user;
      aud = client_id c wish.client ∷ [];
      azp = None;
      exp = at + id_token_life;
      iat = at;
      auth_time = Some who.auth_time;
      nonce = wish.nonce;
      sid = Some (word_text who.sid);
      at_hash = hash_of access;
      c_hash = hash_of code;
      more = held_members c who.user (id_scopes wish) wish.id_asked;
    }

-- the sealed ID Token of a wish
unfoldable pub issued_id : Configuration → Wish → Authentication → ℕ → Option Word → Option Word → Text
issued_id c wish who at access code = id_text (client_sealing c wish.client) (id_claims c wish who at access code)
