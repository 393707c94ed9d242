-- The provider whose document the bytes are, or why they are rejected (OpenID Connect Discovery 1.0, 3 and 4.3).
use Rattle.std.specs.Prelude.{ℕ, Bool, false, not, List, [], ◌∷◌, codes, is_none, Option, Some, None, option_and_then, unwrap_or, Result, Ok, Err}
use Rattle.std.specs.Str.{bytes_eq}
use Rattle.sso_base.specs.Texts.{has_text}
use Rattle.serde_json.specs.Data.{Data, null, boolean, number, string, array, object, Members}
use Rattle.serde_json.specs.Find.{get_member, as_str}
use Rattle.sso_base.specs.Refusals.{first_refusal, and_then}
use Rattle.claim_set.specs.Kinds.{item_texts}
use Rattle.claim_set.specs.Reading.{claims_read}
use Rattle.claim_set.specs.declared.no.ClaimNo.{ClaimNo}
use Rattle.registered_url.specs.Rule.{url_of}
use Rattle.client_registry.specs.declared.records.Provider.{Provider}
use Rattle.discovery_doc.specs.declared.no.DiscNo.{DiscNo}
use Rattle.discovery_doc.specs.declared.no.DiscNo.TheVariants.{NotObject, Missing, IssuerDiffers, NoHs256, BadUrl}

-- an array of strings, but not a single string
abbrev pub as_texts : Data → Option (List (List ℕ))
as_texts null = None
as_texts (boolean b) = None
as_texts (number n) = None
as_texts (string s) = None
as_texts (array ds) = item_texts ds
as_texts (object ms) = None

-- the value at a name, if it is of this kind
abbrev pub member_as : {A : Type 0} → (Data → Option A) → List ℕ → Members → Option A
member_as kind name ms = option_and_then kind (get_member name ms)

abbrev pub text_in : List ℕ → Members → List ℕ
text_in name ms = unwrap_or (member_as as_str name ms) []

abbrev pub texts_in : List ℕ → Members → List (List ℕ)
texts_in name ms = unwrap_or (member_as as_texts name ms) []

-- the text violates the rule for URLs
abbrev pub is_bad_url : List ℕ → Bool
is_bad_url t = is_none (url_of t)

-- the member is present, and violates the rule for URLs
abbrev pub is_bad_member : Option Data → Bool
is_bad_member None = false
is_bad_member (Some d) = is_none (option_and_then url_of (as_str d))

abbrev pub missing : {A : Type 0} → (Data → Option A) → List ℕ → Members → Bool × DiscNo
missing kind name ms = (is_none (member_as kind name ms), Missing name)

-- the required members, in the order in which they are checked
abbrev pub absences : Members → List (Bool × DiscNo)
absences ms =
    missing as_str (codes "issuer") ms
    ∷ missing as_str (codes "authorization_endpoint") ms
    ∷ missing as_str (codes "token_endpoint") ms
    ∷ missing as_str (codes "jwks_uri") ms
    ∷ missing as_texts (codes "response_types_supported") ms
    ∷ missing as_texts (codes "subject_types_supported") ms
    ∷ missing as_texts (codes "id_token_signing_alg_values_supported") ms ∷ []

-- the errors of members that are present, in a document requested for this issuer
abbrev pub faults : List ℕ → Members → List (Bool × DiscNo)
faults issuer ms =
    (not (bytes_eq (text_in (codes "issuer") ms) issuer), IssuerDiffers)
    ∷ (not (has_text (codes "HS256") (texts_in (codes "id_token_signing_alg_values_supported") ms)), NoHs256)
    ∷ (is_bad_url (text_in (codes "authorization_endpoint") ms), BadUrl (codes "authorization_endpoint"))
    ∷ (is_bad_url (text_in (codes "token_endpoint") ms), BadUrl (codes "token_endpoint"))
    ∷ (is_bad_member (get_member (codes "userinfo_endpoint") ms), BadUrl (codes "userinfo_endpoint")) ∷ []

-- the endpoints in a document
abbrev pub provider_in : Members → Provider
provider_in ms = record {
  issuer = text_in (codes "issuer") ms;
  authorize = text_in (codes "authorization_endpoint") ms;
  token = text_in (codes "token_endpoint") ms;
  userinfo = member_as as_str (codes "userinfo_endpoint") ms;
}

abbrev pub members_read : List ℕ → Members → Result Provider DiscNo
members_read issuer ms = and_then (first_refusal (absences ms)) (λ _. and_then (first_refusal (faults issuer ms)) (λ _. Ok (provider_in ms)))

abbrev pub if_object : List ℕ → Result Members ClaimNo → Result Provider DiscNo
if_object issuer (Ok ms) = members_read issuer ms
if_object issuer (Err e) = Err NotObject

-- the provider of this issuer whose document the bytes are, or the first error that applies
unfoldable pub discovery_read : List ℕ → List ℕ → Result Provider DiscNo
discovery_read issuer b = if_object issuer (claims_read b)
