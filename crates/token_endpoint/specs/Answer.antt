-- Successful token responses (RFC 6749, 5.1; OpenID Connect Core 1.0, 3.1.3.3), written and read.
use Rattle.std.specs.Prelude.{◌≡◌, ◌==◌, Bool, true, false, not, List, [], ◌∷◌, codes, Option, Some, None, option_and_then, Result, Ok}
use Rattle.std.specs.Str.{str_to_ascii_lowercase}
use Rattle.serde_json.specs.Data.{string, Members, no_members}
use Rattle.serde_json.specs.Find.{get_member, as_str}
use Rattle.sso_base.specs.Words.{Text}
use Rattle.sso_base.specs.Refusals.{and_then, and_then_as, demand, forbid}
use Rattle.sso_base.specs.declared.message.Answered.{Answered}
use Rattle.oidc_words.specs.Lives.{access_life}
use Rattle.oidc_words.specs.TokenTypes.{bearer_word}
use Rattle.request_params.specs.Scheme.{is_bearer}
use Rattle.claim_set.specs.Building.{Entry, put_all, number_value}
use Rattle.claim_set.specs.Kinds.{text_claim, another_kind, absent}
use Rattle.claim_set.specs.Reading.{Reads, claims_read, claims_text}
use Rattle.claim_set.specs.declared.no.ClaimNo.{ClaimNo}
use Rattle.claim_set.specs.declared.no.ClaimNo.TheVariants as claims
use Rattle.token_endpoint.specs.declared.reading.Tokens.{Tokens}
use Rattle.token_endpoint.specs.declared.reading.RawTokens.{RawTokens}
use Rattle.token_endpoint.specs.declared.no.TokensNo.{TokensNo}
use Rattle.token_endpoint.specs.declared.no.TokensNo.TheVariants.{Status, Claims, Missing, NotBearer}

-- ---- writing

-- the members of a response: the access token with its type and its life, and the ID Token
abbrev pub token_entries : Text → Text → List Entry
token_entries access id =
    (codes "access_token", Some (string access))
    ∷ (codes "expires_in", Some (number_value access_life))
    ∷ (codes "id_token", Some (string id))
    ∷ (codes "token_type", Some (string bearer_word)) ∷ []

-- the body of a response
unfoldable pub tokens_text : Text → Text → Text
tokens_text access id = claims_text (put_all (token_entries access id) no_members)

-- ---- reading

-- the members, each of which may be absent; the first of another kind, by name, is an error
unfoldable pub raw_in : Members → Result RawTokens ClaimNo
raw_in ms =
    and_then (text_claim (codes "access_token") ms) (λ access.
    and_then (text_claim (codes "id_token") ms) (λ id.
    and_then (text_claim (codes "token_type") ms) (λ kind.
    Ok (record { access = access; id = id; kind = kind }))))

-- the required members
unfoldable pub whole : RawTokens → Result Tokens TokensNo
whole raw =
    demand (Missing (codes "access_token")) raw.access (λ access.
    demand (Missing (codes "token_type")) raw.kind (λ kind.
    demand (Missing (codes "id_token")) raw.id (λ id.
    forbid NotBearer (not (is_bearer kind)) (Ok (record { access = access; id = id })))))

-- the tokens in a claim set
unfoldable pub tokens_in : Members → Result Tokens TokensNo
tokens_in ms = and_then_as Claims (raw_in ms) whole

-- the tokens in a response, or the first error that applies
unfoldable pub tokens_read : Answered → Result Tokens TokensNo
tokens_read answer = forbid (Status answer.status) (not (answer.status == 200)) (and_then_as Claims (claims_read answer.body) tokens_in)

-- ---- the same, stated literally

-- the response has these tokens: its status is 200, and its body is a JSON object with both and the type of the access token
pub record HasTokens (answer : Answered) (tokens : Tokens) : Type 0 where
  pub status : answer.status ≡ 200
  pub members : Members
  pub reads : Reads answer.body members
  pub access : get_member (codes "access_token") members ≡ Some (string tokens.access)
  pub id : get_member (codes "id_token") members ≡ Some (string tokens.id)
  pub kind : Text
  pub token_type : get_member (codes "token_type") members ≡ Some (string kind)
  pub bearer : str_to_ascii_lowercase kind ≡ codes "bearer"

-- the type is present, and is not `Bearer`
abbrev pub is_other_type : Option Text → Bool
is_other_type None = false
is_other_type (Some kind) = not (is_bearer kind)

-- the errors of a body's members, in order: first members of another kind, by their names, then absent ones, then the type
abbrev pub token_refusals : Members → List (Bool × TokensNo)
token_refusals ms =
    another_kind Claims (codes "access_token") as_str ms
    ∷ another_kind Claims (codes "id_token") as_str ms
    ∷ another_kind Claims (codes "token_type") as_str ms
    ∷ absent Missing (codes "access_token") ms
    ∷ absent Missing (codes "token_type") ms
    ∷ absent Missing (codes "id_token") ms
    ∷ (is_other_type (option_and_then as_str (get_member (codes "token_type") ms)), NotBearer) ∷ []

-- ---- out of memory

-- `NoMemory` is wrapped in another error
abbrev pub hides_memory : TokensNo → Bool
hides_memory (Claims claims.NoMemory) = true
hides_memory e = false
