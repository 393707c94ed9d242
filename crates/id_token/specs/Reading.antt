-- The ID Token in a sealed text, or why the text is rejected (OpenID Connect Core 1.0, 2; RFC 7519, 7.2).
use Rattle.std.specs.Prelude.{ℕ, Bool, true, false, List, Option, Some, None, option_and_then, Result, Ok, Err, codes, if◌then◌else◌}
use Rattle.serde_json.specs.Data.{Members}
use Rattle.sso_base.specs.Refusals.{and_then, and_then_as, demand}
use Rattle.claim_set.specs.Kinds.{text_claim, texts_claim, number_claim}
use Rattle.claim_set.specs.Reading.{claims_read}
use Rattle.claim_set.specs.Building.{without_all}
use Rattle.claim_set.specs.declared.no.ClaimNo.{ClaimNo}
use Rattle.claim_set.specs.declared.no.ClaimNo.TheVariants.{WrongKind}
use Rattle.jws_compact.specs.declared.no.JwsNo.TheVariants as jws
use Rattle.claim_set.specs.declared.no.ClaimNo.TheVariants as claims
use Rattle.jws_compact.specs.declared.unsealing.Unsealed.{Unsealed}
use Rattle.jws_compact.specs.Jws.{verdict, payload_in}
use Rattle.id_token.specs.declared.claims.IdClaims.{IdClaims}
use Rattle.id_token.specs.declared.claims.RawClaims.{RawClaims}
use Rattle.id_token.specs.declared.no.IdNo.{IdNo}
use Rattle.id_token.specs.declared.no.IdNo.TheVariants.{Jws, Claims, Missing}
use Rattle.id_token.specs.Claims.{is_subject, id_names}

abbrev pub if_subject : Option (List ℕ) → Result (Option (List ℕ)) ClaimNo
if_subject None = Ok None
if_subject (Some s) = if is_subject s then Ok (Some s) else Err (WrongKind (codes "sub"))

-- the claims, each of which may be absent; the first of another kind, by name, is an error
unfoldable pub raw_in : Members → Result RawClaims ClaimNo
raw_in ms =
    and_then (text_claim (codes "at_hash") ms) (λ at_hash.
    and_then (texts_claim (codes "aud") ms) (λ aud.
    and_then (number_claim (codes "auth_time") ms) (λ auth_time.
    and_then (text_claim (codes "azp") ms) (λ azp.
    and_then (text_claim (codes "c_hash") ms) (λ c_hash.
    and_then (number_claim (codes "exp") ms) (λ exp.
    and_then (number_claim (codes "iat") ms) (λ iat.
    and_then (text_claim (codes "iss") ms) (λ iss.
    and_then (text_claim (codes "nonce") ms) (λ nonce.
    and_then (text_claim (codes "sid") ms) (λ sid.
    and_then (text_claim (codes "sub") ms) (λ given.
    and_then (if_subject given) (λ sub.
    Ok (record {
      at_hash = at_hash;
      aud = aud;
      auth_time = auth_time;
      azp = azp;
      c_hash = c_hash;
      exp = exp;
      iat = iat;
      iss = iss;
      nonce = nonce;
      sid = sid;
      sub = sub;
    })))))))))))))

-- the required claims
unfoldable pub whole : RawClaims → Members → Result IdClaims IdNo
whole r more =
    demand (Missing (codes "iss")) r.iss (λ iss.
    demand (Missing (codes "sub")) r.sub (λ sub.
    demand (Missing (codes "aud")) r.aud (λ aud.
    demand (Missing (codes "exp")) r.exp (λ exp.
    demand (Missing (codes "iat")) r.iat (λ iat.
    Ok (record {
      iss = iss;
      sub = sub;
      aud = aud;
      azp = r.azp;
      exp = exp;
      iat = iat;
      auth_time = r.auth_time;
      nonce = r.nonce;
      sid = r.sid;
      at_hash = r.at_hash;
      c_hash = r.c_hash;
      more = more;
    }))))))

-- the ID Token in a claim set
unfoldable pub id_of : Members → Result IdClaims IdNo
id_of ms = and_then_as Claims (raw_in ms) (λ raw. whole raw (without_all id_names ms))

-- the ID Token in a sealed text, or the first error that applies
unfoldable pub id_read : List ℕ → List ℕ → Result IdClaims IdNo
id_read k t = and_then_as Jws (verdict k t) (λ (o : Unsealed). and_then_as Claims (claims_read o.payload) id_of)

-- ---- the audience of a text that anyone may have written

abbrev pub texts_found : Result (Option (List (List ℕ))) ClaimNo → Option (List (List ℕ))
texts_found (Ok texts) = texts
texts_found (Err e) = None

abbrev pub aud_in : Result Members ClaimNo → Option (List (List ℕ))
aud_in (Ok ms) = texts_found (texts_claim (codes "aud") ms)
aud_in (Err e) = None

-- the audience that a text names, whether it is sealed or not
unfoldable pub audience_in : List ℕ → Option (List (List ℕ))
audience_in t = option_and_then (λ p. aud_in (claims_read p)) (payload_in t)

-- ---- errors of the calls

-- `NoMemory` is wrapped in another error
abbrev pub hides_memory : IdNo → Bool
hides_memory (Jws jws.NoMemory) = true
hides_memory (Claims claims.NoMemory) = true
hides_memory e = false
