-- The logout tokens of the provider (OpenID Connect Back-Channel Logout 1.0, 2.4).
use Rattle.std.specs.Prelude.{ℕ, ◌+◌, Bool, false, [], ◌∷◌, ◌++◌, codes, decimal, Option, Some, None}
use Rattle.sso_base.specs.Words.{Word, Text, word_text}
use Rattle.oidc_words.specs.Lives.{logout_token_life}
use Rattle.client_registry.specs.declared.records.Client.{Client}
use Rattle.client_registry.specs.Configuration.{Configuration, subject_at}
use Rattle.client_registry.specs.Numbers.{client_at, client_id, client_sealing}
use Rattle.logout_token.specs.declared.claims.LogoutClaims.{LogoutClaims}
use Rattle.logout_token.specs.LogoutToken.{logout_text}
use Rattle.op_issue.specs.Issued.{if_wished}
use Rattle.op_issue.specs.declared.sign_out.SignOut.{SignOut}

-- the token's own identifier: the text of the word that was drawn for the sign-out, a dot and the number of the client
abbrev pub logout_id : Word → ℕ → Text
logout_id drawn client = word_text drawn ++ codes "." ++ decimal client

-- the client requires a `sid` in its logout tokens (2.2)
abbrev pub wants_sid : Option Client → Bool
wants_sid None = false
wants_sid (Some client) = client.logout_session

-- the claims of the logout token for the client with a number
unfoldable pub logout_claims : Configuration → ℕ → SignOut → LogoutClaims
logout_claims c client out =
    record {
      iss = c.provider.issuer;
      aud = client_id c client ∷ [];
      iat = out.at;
      exp = out.at + logout_token_life;
      jti = logout_id out.word client;
      sub = Some (subject_at c client out.who.user);
      sid = if_wished (wants_sid (client_at c client)) (word_text out.who.sid);
    }

-- the sealed logout token
unfoldable pub issued_logout : Configuration → ℕ → SignOut → Text
issued_logout c client out = logout_text (client_sealing c client) (logout_claims c client out)
