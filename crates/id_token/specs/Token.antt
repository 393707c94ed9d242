-- What an ID Token is, in the standard's words: a sealed claim set that contains its claims (OpenID Connect Core 1.0, 2). Then
-- the errors for other texts, in order.
use Rattle.std.specs.Prelude.{◌≡◌, ◌<◌, ◌^◌, ℕ, List, [], ◌∷◌, Bool, Option, Some, None, option_map, option_and_then, codes, IsTrue, IfSome, if◌then◌else◌}
use Rattle.serde_json.specs.Data.{Data, string, Members}
use Rattle.serde_json.specs.Find.{get_member, as_str}
use Rattle.claim_set.specs.Building.{number_value, without_all}
use Rattle.claim_set.specs.Kinds.{data_texts, small_number, another_kind, absent}
use Rattle.claim_set.specs.Reading.{Reads}
use Rattle.jws_compact.specs.Jws.{Sealed}
use Rattle.id_token.specs.declared.claims.IdClaims.{IdClaims}
use Rattle.id_token.specs.declared.no.IdNo.{IdNo}
use Rattle.id_token.specs.declared.no.IdNo.TheVariants.{Claims, Missing}
use Rattle.id_token.specs.Claims.{id_names, is_subject}

-- the claim set contains the claims x, each under its name; an audience is one string or an array of strings
pub record HasClaims (ms : Members) (x : IdClaims) : Type 0 where
  pub iss : get_member (codes "iss") ms ≡ Some (string x.iss)
  pub sub : get_member (codes "sub") ms ≡ Some (string x.sub)
  pub aud : option_and_then data_texts (get_member (codes "aud") ms) ≡ Some x.aud
  pub exp : get_member (codes "exp") ms ≡ Some (number_value x.exp)
  pub iat : get_member (codes "iat") ms ≡ Some (number_value x.iat)
  pub auth_time : get_member (codes "auth_time") ms ≡ option_map number_value x.auth_time
  pub azp : get_member (codes "azp") ms ≡ option_map string x.azp
  pub nonce : get_member (codes "nonce") ms ≡ option_map string x.nonce
  pub sid : get_member (codes "sid") ms ≡ option_map string x.sid
  pub at_hash : get_member (codes "at_hash") ms ≡ option_map string x.at_hash
  pub c_hash : get_member (codes "c_hash") ms ≡ option_map string x.c_hash
  pub more : x.more ≡ without_all id_names ms
  pub is_subject : IsTrue (is_subject x.sub)
  pub exp_fits : x.exp < 2 ^ 40
  pub iat_fits : x.iat < 2 ^ 40
  pub auth_time_fits : IfSome x.auth_time (λ n. n < 2 ^ 40)

-- the text t is an ID Token under the key k, with the claims x
pub record IsIdToken (k t : List ℕ) (x : IdClaims) : Type 0 where
  pub header : List ℕ
  pub payload : List ℕ
  pub claims : Members
  pub sealed : Sealed k header payload t
  pub reads : Reads payload claims
  pub has : HasClaims claims x

-- ---- the errors of a claim set: first the claims of another kind, in the order of their names, then the absent ones

abbrev pub as_subject : Data → Option (List ℕ)
as_subject d = option_and_then (λ s. if is_subject s then Some s else None) (as_str d)

abbrev pub id_refusals : Members → List (Bool × IdNo)
id_refusals ms =
    another_kind Claims (codes "at_hash") as_str ms
    ∷ another_kind Claims (codes "aud") data_texts ms
    ∷ another_kind Claims (codes "auth_time") small_number ms
    ∷ another_kind Claims (codes "azp") as_str ms
    ∷ another_kind Claims (codes "c_hash") as_str ms
    ∷ another_kind Claims (codes "exp") small_number ms
    ∷ another_kind Claims (codes "iat") small_number ms
    ∷ another_kind Claims (codes "iss") as_str ms
    ∷ another_kind Claims (codes "nonce") as_str ms
    ∷ another_kind Claims (codes "sid") as_str ms
    ∷ another_kind Claims (codes "sub") as_subject ms
    ∷ absent Missing (codes "iss") ms
    ∷ absent Missing (codes "sub") ms
    ∷ absent Missing (codes "aud") ms
    ∷ absent Missing (codes "exp") ms
    ∷ absent Missing (codes "iat") ms ∷ []
