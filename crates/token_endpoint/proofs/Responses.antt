-- A token response is read if and only if it has tokens, and others are refused for the first reason.
use Rattle.std.proofs.Common.{◌≡◌, ◌≢◌, ℕ, drop, List, [], ◌∷◌, ◌++◌, Bool, true, false, not, codes, Option, Some, None, option_map, option_and_then, is_none, Result, Ok, Err, IsOk, refl, sym, ap, ◌∙◌}
use Rattle.std.specs.Str.{IsUtf8, str_to_ascii_lowercase}
use Rattle.std.proofs.lemmas.Slice.Eq.{bytes_eq-Decides}
use Rattle.json.specs.Print.{quoted}
use Rattle.serde_json.specs.Data.{Data, string, Members, no_members}
use Rattle.serde_json.specs.Find.{get_member, as_str}
use Rattle.sso_base.specs.Words.{Text, Word, word_text}
use Rattle.sso_base.specs.Refusals.{first_refusal, and_then_as, demand, forbid}
use Rattle.sso_base.specs.declared.message.Answered.{Answered}
use Rattle.sso_base.proofs.Refusals.{and_then_ok, and_then_as_ok, demand_ok, forbid_ok, one_value, holds_as}
use Rattle.sso_base.proofs.Decided.{not_not}
use Rattle.sso_base.proofs.Statuses.{status_judged, status_refused, status_accepted}
use Rattle.claim_set.specs.Building.{put_all}
use Rattle.claim_set.specs.Kinds.{text_claim}
use Rattle.claim_set.specs.Reading.{Reads, claims_read, claims_text}
use Rattle.claim_set.specs.declared.no.ClaimNo.{ClaimNo}
use Rattle.claim_set.proofs.Building.{get-put_all}
use Rattle.claim_set.proofs.KindLaws.{text_read, text_there, is_there, after_kind, after_demand, refused_of, is_refused, is_accepted}
use Rattle.claim_set.proofs.Parsing.{read_reads, reads_read}
use Rattle.claim_set.proofs.Written.{claims_read-claims_text}
use Rattle.claim_set.proofs.OnLiterals.{claims_on_literals}
use Rattle.token_endpoint.specs.declared.reading.Tokens.{Tokens}
use Rattle.token_endpoint.specs.declared.reading.RawTokens.{RawTokens}
use Rattle.token_endpoint.specs.declared.no.TokensNo.{TokensNo}
use Rattle.token_endpoint.specs.declared.no.TokensNo.TheVariants.{Status, Claims, Missing, NotBearer}
use Rattle.token_endpoint.specs.declared.error.TokenError.{TokenError}
use Rattle.token_endpoint.specs.declared.error.TokenError.TheVariants.{InvalidRequest, InvalidClient, InvalidGrant, UnsupportedGrantType}
use Rattle.token_endpoint.specs.Errors.{error_code, error_text}
use Rattle.oidc_words.specs.Errors as oidc
use Rattle.oidc_words.specs.TokenTypes.{bearer_word}
use Rattle.request_params.specs.Scheme.{is_bearer}
use Rattle.token_endpoint.specs.Answer.{token_entries, tokens_text, raw_in, whole, tokens_in, tokens_read, HasTokens, is_other_type, token_refusals}
use Rattle.sso_base.proofs.WordUtf8.{IsUtf8-word_text}
use Rattle.token_endpoint.proofs.Fitting.{tokens_fit}

abbrev tokens_ok : Tokens → Result Tokens TokensNo
tokens_ok t = Ok t

-- ---- the status

claims_judged : (a : Answered) → a.status ≡ 200 → tokens_read a ≡ and_then_as Claims (claims_read a.body) tokens_in
unfolding tokens_read
claims_judged a h = status_judged (Status a.status) a.status (and_then_as Claims (claims_read a.body) tokens_in) h

pub other_status : (a : Answered) → a.status ≢ 200 → tokens_read a ≡ Err (Status a.status)
unfolding tokens_read
other_status a h = status_refused (Status a.status) a.status (and_then_as Claims (claims_read a.body) tokens_in) h

accepted_status : (a : Answered) (t : Tokens) → tokens_read a ≡ Ok t → (a.status ≡ 200) × (and_then_as Claims (claims_read a.body) tokens_in ≡ Ok t)
unfolding tokens_read
accepted_status a t h = status_accepted (Status a.status) a.status (and_then_as Claims (claims_read a.body) tokens_in) t h

members_judged : (a : Answered) (ms : Members) → a.status ≡ 200 → Reads a.body ms → tokens_read a ≡ tokens_in ms
members_judged a ms h r = claims_judged a h ∙ ap (λ (r : Result Members ClaimNo). and_then_as Claims r tokens_in) (reads_read a.body ms r)

-- ---- what stands there is read

abbrev raw_of : Text → Text → Text → RawTokens
raw_of access id kind = record { access = Some access; id = Some id; kind = Some kind }

raw_is : (ms : Members) (access id kind : Text) → get_member (codes "access_token") ms ≡ Some (string access) → get_member (codes "id_token") ms ≡ Some (string id) → get_member (codes "token_type") ms ≡ Some (string kind)
    → raw_in ms ≡ Ok (raw_of access id kind)
unfolding raw_in
raw_is ms access id kind a i k = rw (text_read ms (codes "access_token") (Some access) a, text_read ms (codes "id_token") (Some id) i, text_read ms (codes "token_type") (Some kind) k)

whole_is : (t : Tokens) (kind : Text) → str_to_ascii_lowercase kind ≡ codes "bearer" → whole (raw_of t.access t.id kind) ≡ Ok t
unfolding whole
whole_is t kind b = ap (λ (x : Bool). forbid NotBearer (not x) (tokens_ok t)) ((bytes_eq-Decides (str_to_ascii_lowercase kind) (codes "bearer")).1 b)

in_is : (ms : Members) (t : Tokens) (kind : Text) → raw_in ms ≡ Ok (raw_of t.access t.id kind) → str_to_ascii_lowercase kind ≡ codes "bearer" → tokens_in ms ≡ Ok t
unfolding tokens_in
in_is ms t kind raw b = ap (λ (r : Result RawTokens ClaimNo). and_then_as Claims r whole) raw ∙ whole_is t kind b

pub has_read : (a : Answered) (t : Tokens) → HasTokens a t → tokens_read a ≡ Ok t
has_read a t h =
    members_judged a h.members h.status h.reads
    ∙ in_is h.members t h.kind (raw_is h.members t.access t.id h.kind h.access h.id h.token_type) h.bearer

-- ---- what is read stands there

-- the tokens and the type in the members
record AreIn (ms : Members) (t : Tokens) : Type 0 where
  access : get_member (codes "access_token") ms ≡ Some (string t.access)
  id : get_member (codes "id_token") ms ≡ Some (string t.id)
  kind : Text
  token_type : get_member (codes "token_type") ms ≡ Some (string kind)
  bearer : str_to_ascii_lowercase kind ≡ codes "bearer"

record RawStands (ms : Members) (r : RawTokens) : Type 0 where
  access : get_member (codes "access_token") ms ≡ option_map string r.access
  id : get_member (codes "id_token") ms ≡ option_map string r.id
  kind : get_member (codes "token_type") ms ≡ option_map string r.kind

raw_stands : (ms : Members) (r : RawTokens) → raw_in ms ≡ Ok r → RawStands ms r
unfolding raw_in
raw_stands ms r h =
    let access = and_then_ok (text_claim (codes "access_token") ms) _ r h in
    let id = and_then_ok (text_claim (codes "id_token") ms) _ r access.2 in
    let kind = and_then_ok (text_claim (codes "token_type") ms) _ r id.2 in
    holds_as ClaimNo (RawStands ms) _ r kind.2 (record {
      access = text_there ms (codes "access_token") access.0 access.1;
      id = text_there ms (codes "id_token") id.0 id.1;
      kind = text_there ms (codes "token_type") kind.0 kind.1;
    })

text_in : (q : Option Data) (o : Option Text) (t : Text) → q ≡ option_map string o → o ≡ Some t → q ≡ Some (string t)
text_in q o t h is = h ∙ ap (option_map string) is

whole_stands : (ms : Members) (r : RawTokens) (t : Tokens) → RawStands ms r → whole r ≡ Ok t → AreIn ms t
unfolding whole
whole_stands ms r t stands h =
    let access = demand_ok (Missing (codes "access_token")) r.access _ t h in
    let kind = demand_ok (Missing (codes "token_type")) r.kind _ t access.2 in
    let id = demand_ok (Missing (codes "id_token")) r.id _ t kind.2 in
    let bearer = forbid_ok NotBearer (not (is_bearer kind.0)) _ t id.2 in
    let this = one_value TokensNo _ t bearer.1 in
    record {
      access = text_in _ r.access t.access stands.access (access.1 ∙ ap (λ (x : Tokens). Some x.access) this);
      id = text_in _ r.id t.id stands.id (id.1 ∙ ap (λ (x : Tokens). Some x.id) this);
      kind = kind.0;
      token_type = text_in _ r.kind kind.0 stands.kind kind.1;
      bearer = (bytes_eq-Decides (str_to_ascii_lowercase kind.0) (codes "bearer")).0 (not_not (is_bearer kind.0) bearer.0);
    }

in_stands : (ms : Members) (t : Tokens) → tokens_in ms ≡ Ok t → AreIn ms t
unfolding tokens_in
in_stands ms t h =
    let raw = and_then_as_ok Claims (raw_in ms) whole t h in
    whole_stands ms raw.0 t (raw_stands ms raw.0 raw.1) raw.2

claims_at : (a : Answered) (t : Tokens) (r : Result Members ClaimNo) → a.status ≡ 200 → claims_read a.body ≡ r → and_then_as Claims r tokens_in ≡ Ok t → HasTokens a t
claims_at a t (Err e) ok is h = absurd (cc)
claims_at a t (Ok ms) ok is h =
    let stands = in_stands ms t h in
    record {
      status = ok;
      members = ms;
      reads = read_reads a.body ms is;
      access = stands.access;
      id = stands.id;
      kind = stands.kind;
      token_type = stands.token_type;
      bearer = stands.bearer;
    }

pub read_has : (a : Answered) (t : Tokens) → tokens_read a ≡ Ok t → HasTokens a t
read_has a t h = let parts = accepted_status a t h in claims_at a t (claims_read a.body) parts.0 refl parts.1

-- ---- the first reason

pub unread : (a : Answered) (e : ClaimNo) → a.status ≡ 200 → claims_read a.body ≡ Err e → tokens_read a ≡ Err (Claims e)
unread a e h is = claims_judged a h ∙ ap (λ (r : Result Members ClaimNo). and_then_as Claims r tokens_in) is

type_at : (b : Bool) (t : Tokens) → refused_of (forbid NotBearer b (tokens_ok t)) ≡ first_refusal ((b, NotBearer) ∷ [])
type_at true t = refl
type_at false t = refl

-- the type of an access token, after it was demanded
after_type : (ms : Members) (kind : Option Text) (f : Text → Result Tokens TokensNo) (cs : List (Bool × TokensNo)) → text_claim (codes "token_type") ms ≡ Ok kind
    → ((k : Text) → option_and_then as_str (get_member (codes "token_type") ms) ≡ Some k → refused_of (f k) ≡ first_refusal cs)
    → refused_of (demand (Missing (codes "token_type")) kind f) ≡ first_refusal ((is_none (get_member (codes "token_type") ms), Missing (codes "token_type")) ∷ cs)
after_type ms None f cs h goes =
    let none : get_member (codes "token_type") ms ≡ None = text_there ms (codes "token_type") None h in
    sym (ap (λ (o : Option Data). first_refusal ((is_none o, Missing (codes "token_type")) ∷ cs)) none)
after_type ms (Some k) f cs h goes =
    let there : get_member (codes "token_type") ms ≡ Some (string k) = text_there ms (codes "token_type") (Some k) h in
    goes k (ap (option_and_then as_str) there) ∙ sym (ap (λ (o : Option Data). first_refusal ((is_none o, Missing (codes "token_type")) ∷ cs)) there)

refusals_of : (ms : Members) → refused_of (tokens_in ms) ≡ first_refusal (token_refusals ms)
unfolding tokens_in raw_in whole
refusals_of ms =
    let g : Result RawTokens ClaimNo → Result (Unit {0}) TokensNo = λ r. refused_of (and_then_as Claims r whole) in
    let left : ℕ → List (Bool × TokensNo) = λ n. drop n (token_refusals ms) in
    let at : Text → Option Data = λ name. get_member name ms in
    after_kind (codes "access_token") as_str (at (codes "access_token")) _ g Claims (left 1) (λ e. refl) (λ access h1.
    after_kind (codes "id_token") as_str (at (codes "id_token")) _ g Claims (left 2) (λ e. refl) (λ id h2.
    after_kind (codes "token_type") as_str (at (codes "token_type")) _ g Claims (left 3) (λ e. refl) (λ kind h3.
    after_demand (Missing (codes "access_token")) access (at (codes "access_token")) _ (left 4) (is_there (codes "access_token") as_str _ access h1) (λ a.
    after_type ms kind _ (left 5) h3 (λ k typed.
    after_demand (Missing (codes "id_token")) id (at (codes "id_token")) _ (left 6) (is_there (codes "id_token") as_str _ id h2) (λ i.
    type_at (not (is_bearer k)) (record { access = a; id = i }) ∙ sym (ap (λ (o : Option Text). first_refusal ((is_other_type o, NotBearer) ∷ [])) typed)))))))

in_refused : (ms : Members) (e : TokensNo) → first_refusal (token_refusals ms) ≡ Err e → tokens_in ms ≡ Err e
in_refused ms e h = is_refused (tokens_in ms) e (refusals_of ms ∙ h)

in_accepted : (ms : Members) → first_refusal (token_refusals ms) ≡ Ok tt → IsOk (tokens_in ms)
in_accepted ms h = is_accepted (tokens_in ms) (refusals_of ms ∙ h)

pub refused : (a : Answered) (ms : Members) (e : TokensNo) → a.status ≡ 200 → Reads a.body ms → first_refusal (token_refusals ms) ≡ Err e → tokens_read a ≡ Err e
refused a ms e h r f = members_judged a ms h r ∙ in_refused ms e f

pub accepted : (a : Answered) (ms : Members) → a.status ≡ 200 → Reads a.body ms → first_refusal (token_refusals ms) ≡ Ok tt → IsOk (tokens_read a)
accepted a ms h r f = rw (members_judged a ms h r) (in_accepted ms f)

-- ---- what is written is read

abbrev answer_with : Text → Answered
answer_with body = record { status = 200; body = body }

written_has : (access id : Text) → IsUtf8 access → IsUtf8 id → HasTokens (answer_with (tokens_text access id)) (record { access = access; id = id })
unfolding tokens_text
written_has access id a i =
    let es = token_entries access id in
    let ms : Members = put_all es no_members in
    record {
      status = refl;
      members = ms;
      reads = read_reads (claims_text ms) ms (claims_read-claims_text ms (tokens_fit access id a i));
      access = rw (get-put_all (codes "access_token") es no_members) refl;
      id = rw (get-put_all (codes "id_token") es no_members) refl;
      kind = bearer_word;
      token_type = rw (get-put_all (codes "token_type") es no_members) refl;
      bearer = refl;
    }

pub written_read : (access id : Text) → IsUtf8 access → IsUtf8 id → tokens_read (answer_with (tokens_text access id)) ≡ Ok (record { access = access; id = id })
written_read access id a i = has_read (answer_with (tokens_text access id)) (record { access = access; id = id }) (written_has access id a i)

pub words_read : (w : Word) (id : Text) → IsUtf8 id → tokens_read (answer_with (tokens_text (word_text w) id)) ≡ Ok (record { access = word_text w; id = id })
words_read w id i = written_read (word_text w) id (IsUtf8-word_text w) i

-- the text that is written
pub tokens_written : (access id : Text) → tokens_text access id ≡ codes "{\"access_token\":" ++ (quoted access ++ (codes ",\"expires_in\":3600,\"id_token\":" ++ (quoted id ++ codes ",\"token_type\":\"Bearer\"}")))
unfolding tokens_text claims_on_literals
tokens_written access id = refl

pub error_written : (e : TokenError) → error_text e ≡ codes "{\"error\":\"" ++ error_code e ++ codes "\"}"
unfolding error_text oidc.error_text claims_on_literals
error_written InvalidRequest = refl
error_written InvalidClient = refl
error_written InvalidGrant = refl
error_written UnsupportedGrantType = refl
