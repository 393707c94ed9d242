-- Sealed texts of a client. A text is sealed for a client if it is sealed under one of its secrets. It is opened under the
-- secret, and under the old secret only if nothing but its MAC is wrong under the secret (our choice).
use Rattle.std.specs.Prelude.{◌≡◌, Bool, true, false, Option, Some, None, Result, Err, if◌then◌else◌}
use Rattle.sso_base.specs.Words.{Text}
use Rattle.jws_compact.specs.declared.no.JwsNo.{JwsNo}
use Rattle.jws_compact.specs.declared.no.JwsNo.TheVariants.{BadMac}
use Rattle.jws_compact.specs.declared.unsealing.Unsealed.{Unsealed}
use Rattle.jws_compact.specs.Jws.{Sealed, typ_of, verdict}
use Rattle.client_registry.specs.declared.records.Client.{Client}
use Rattle.client_registry.specs.Secrets.{has_secret}

-- t is the sealed text of the header h and the payload p, under a secret of the client
pub record SealedFor (client : Client) (h p t : Text) : Type 0 where
  pub secret : Text
  pub own : has_secret secret client ≡ true
  pub sealed : Sealed secret h p t

-- the text t is sealed for the client, and u is its contents
abbrev pub OpensFor : Client → Text → Unsealed → Type 0
OpensFor client t u = (h : Text) × SealedFor client h u.payload t × (u.typ ≡ typ_of h)

abbrev pub is_bad_mac : Result Unsealed JwsNo → Bool
is_bad_mac (Err BadMac) = true
is_bad_mac other = false

-- the text has a wrong MAC under the key, and no other error before that
abbrev pub has_bad_mac : Text → Text → Bool
has_bad_mac key t = is_bad_mac (verdict key t)

abbrev pub opening_by : Text → Option Text → Text → Text
opening_by secret None t = secret
opening_by secret (Some old) t = if has_bad_mac secret t then old else secret

-- the secret under which a text of the client is opened
unfoldable pub opening : Client → Text → Text
opening client t = opening_by client.secret client.old_secret t

-- the contents of a text of the client, or why it is rejected
abbrev pub verdict_for : Client → Text → Result Unsealed JwsNo
verdict_for client t = verdict (opening client t) t
