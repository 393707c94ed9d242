-- A request that was written is read again.
use Rattle.std.proofs.Common.{◌≡◌, ℕ, suc, arith, List, [], ◌∷◌, ◌++◌, Bool, true, false, ◌&&◌, ◌||◌, cond, filter, Option, Some, None, is_some, Ok, length, nat_lt, refl, sym, ◌∙◌, ap, subst}
use Rattle.std.specs.Prelude.{⊤, IfSome}
use Rattle.std.specs.List.{list_any}
use Rattle.std.specs.Str.{IsUtf8, bytes_eq}
use Rattle.sso_base.proofs.Utf8Bytes.{IsUtf8-are_ascii}
use Rattle.std.proofs.lemmas.Grind.{common_steps}
use Rattle.sso_base.specs.Words.{Text}
use Rattle.request_params.specs.declared.params.Params.{Params}
use Rattle.request_params.specs.declared.name.ParamName.{ParamName}
use Rattle.request_params.specs.declared.name.ParamName.TheVariants.{ResponseType, ClientId, RedirectUri, Scope, State, Nonce, ResponseMode, Prompt, MaxAge, Claims, Request, RequestUri, Registration}
use Rattle.request_params.specs.Names.{name_text, param_of, AreTexts}
use Rattle.request_params.specs.Form.{Pair, form_pairs, form_text}
use Rattle.request_params.specs.Reading.{is_kept, has_name, value_of, first_repeated, params_in, unless_repeated, pairs_read, request_read, StandOnce}
use Rattle.request_params.specs.Printing.{printed_names, pairs_named, request_pairs, request_form, request_location, IsPrinted}
use Rattle.request_params.specs.Location.{query_mark, with_query}
use Rattle.request_params.proofs.NameLaws.{same_text, name_of-name_text, name_text-injective, param_of-params_by, same_params}
use Rattle.request_params.proofs.Repeated.{repeated_none}
use Rattle.request_params.proofs.Forms.{AreTextPairs, form_pairs-form_text}

-- ---- names in a list of names

abbrev is_among : ParamName → List ParamName → Bool
is_among name names = list_any (λ other. bytes_eq (name_text other) (name_text name)) names

abbrev AreDistinct : List ParamName → Type 0
AreDistinct [] = ⊤
AreDistinct (name ∷ names) = (is_among name names ≡ false) × AreDistinct names

-- ---- the pairs of a list of names

-- a parameter as a pair, before the pairs of other names
abbrev before : ParamName → Option Text → List Pair → List Pair
before name None pairs = pairs
before name (Some v) pairs = (name_text name, v) ∷ pairs

before_is : (params : Params) (name : ParamName) (names : List ParamName) (o : Option Text) → param_of name params ≡ o → pairs_named params (name ∷ names) ≡ before name o (pairs_named params names)
before_is params name names None is = rw is refl
before_is params name names (Some v) is = rw is refl

IsUtf8-name : (name : ParamName) → IsUtf8 (name_text name)
IsUtf8-name ResponseType = IsUtf8-are_ascii (name_text ResponseType) refl
IsUtf8-name ClientId = IsUtf8-are_ascii (name_text ClientId) refl
IsUtf8-name RedirectUri = IsUtf8-are_ascii (name_text RedirectUri) refl
IsUtf8-name Scope = IsUtf8-are_ascii (name_text Scope) refl
IsUtf8-name State = IsUtf8-are_ascii (name_text State) refl
IsUtf8-name Nonce = IsUtf8-are_ascii (name_text Nonce) refl
IsUtf8-name ResponseMode = IsUtf8-are_ascii (name_text ResponseMode) refl
IsUtf8-name Prompt = IsUtf8-are_ascii (name_text Prompt) refl
IsUtf8-name MaxAge = IsUtf8-are_ascii (name_text MaxAge) refl
IsUtf8-name Claims = IsUtf8-are_ascii (name_text Claims) refl
IsUtf8-name Request = IsUtf8-are_ascii (name_text Request) refl
IsUtf8-name RequestUri = IsUtf8-are_ascii (name_text RequestUri) refl
IsUtf8-name Registration = IsUtf8-are_ascii (name_text Registration) refl

texts_before : (name : ParamName) (o : Option Text) (pairs : List Pair) → IfSome o IsUtf8 → AreTextPairs pairs → AreTextPairs (before name o pairs)
texts_before name None pairs u rest = rest
texts_before name (Some v) pairs u rest = ((IsUtf8-name name, u), rest)

pub texts_named : (params : Params) (names : List ParamName) → AreTexts params → AreTextPairs (pairs_named params names)
texts_named params [] u = tt
texts_named params (name ∷ names) u =
    subst AreTextPairs (sym (before_is params name names (param_of name params) refl))
    (texts_before name (param_of name params) (pairs_named params names) (u name) (texts_named params names u))

-- ---- none is left out when they are read

some_length : (n : ℕ) → nat_lt 0 (suc n) ≡ true
some_length n = grind (arith, common_steps)

filled_text : (v : Text) → ¬ (v ≡ []) → nat_lt 0 (length v) ≡ true
filled_text [] h = absurd (h refl)
filled_text (b ∷ v) h = some_length (length v)

kept_pair : (name : ParamName) (v : Text) → ¬ (v ≡ []) → is_kept (name_text name, v) ≡ true
kept_pair name v h = ap (λ o. is_some o && nat_lt 0 (length v)) (name_of-name_text name) ∙ filled_text v h

kept_before : (name : ParamName) (o : Option Text) (pairs : List Pair) → ¬ (o ≡ Some []) → filter is_kept pairs ≡ pairs → filter is_kept (before name o pairs) ≡ before name o pairs
kept_before name None pairs h rest = rest
kept_before name (Some v) pairs h rest =
    ap (λ b. cond b ((name_text name, v) ∷ filter is_kept pairs) (filter is_kept pairs)) (kept_pair name v (λ e. h (ap Some e)))
    ∙ ap (λ (l : List Pair). (name_text name, v) ∷ l) rest

kept_named : (params : Params) (names : List ParamName) → ((name : ParamName) → ¬ (param_of name params ≡ Some [])) → filter is_kept (pairs_named params names) ≡ pairs_named params names
kept_named params [] h = refl
kept_named params (name ∷ names) h =
    let at = before_is params name names (param_of name params) refl in
    ap (filter is_kept) at ∙ kept_before name (param_of name params) (pairs_named params names) (h name) (kept_named params names h) ∙ sym at

-- ---- no name stands twice

or_false : (b c d : Bool) → (b || c) ≡ false → (c ≡ false → d ≡ false) → (b || d) ≡ false
or_false true c d h f = absurd (cc)
or_false false c d h f = f h

or_later : (b c : Bool) → (b || c) ≡ false → c ≡ false
or_later true c h = absurd (cc)
or_later false c h = h

no_name_before : (t : Text) (name : ParamName) (o : Option Text) (pairs : List Pair) (c : Bool) → (bytes_eq (name_text name) t || c) ≡ false → (c ≡ false → has_name t pairs ≡ false)
    → has_name t (before name o pairs) ≡ false
no_name_before t name None pairs c h rest = rest (or_later (bytes_eq (name_text name) t) c h)
no_name_before t name (Some v) pairs c h rest = or_false (bytes_eq (name_text name) t) c (has_name t pairs) h rest

no_name : (params : Params) (name : ParamName) (names : List ParamName) → is_among name names ≡ false → has_name (name_text name) (pairs_named params names) ≡ false
no_name params name [] h = refl
no_name params name (other ∷ names) h =
    ap (has_name (name_text name)) (before_is params other names (param_of other params) refl)
    ∙ no_name_before (name_text name) other (param_of other params) (pairs_named params names) (is_among name names) h (λ none. no_name params name names none)

once_before_all : (name : ParamName) (o : Option Text) (pairs : List Pair) → has_name (name_text name) pairs ≡ false → StandOnce pairs → StandOnce (before name o pairs)
once_before_all name None pairs none rest = rest
once_before_all name (Some v) pairs none rest = (none, rest)

once_named : (params : Params) (names : List ParamName) → AreDistinct names → StandOnce (pairs_named params names)
once_named params [] h = tt
once_named params (name ∷ names) h =
    subst StandOnce (sym (before_is params name names (param_of name params) refl))
    (once_before_all name (param_of name params) (pairs_named params names) (no_name params name names h.0) (once_named params names h.1))

-- ---- the value of a name is its parameter

abbrev if_among : Bool → Option Text → Option Text
if_among b o = cond b o None

same_or : (b c : Bool) (o q : Option Text) → (b ≡ true → o ≡ None) → q ≡ if_among c o → q ≡ if_among (b || c) o
same_or true true o q h rest = rest
same_or true false o q h rest = rest ∙ sym (h refl)
same_or false c o q h rest = rest

value_or : (b c : Bool) (v : Text) (o q : Option Text) → (b ≡ true → Some v ≡ o) → q ≡ if_among c o → cond b (Some v) q ≡ if_among (b || c) o
value_or true c v o q h rest = h refl
value_or false c v o q h rest = rest

value_before : (params : Params) (name other : ParamName) (o : Option Text) → param_of other params ≡ o → (pairs : List Pair) (c : Bool) → value_of (name_text name) pairs ≡ if_among c (param_of name params)
    → value_of (name_text name) (before other o pairs) ≡ if_among (bytes_eq (name_text other) (name_text name) || c) (param_of name params)
value_before params name other None is pairs c rest =
    same_or (bytes_eq (name_text other) (name_text name)) c (param_of name params) (value_of (name_text name) pairs)
    (λ b. ap (λ n. param_of n params) (sym (name_text-injective other name (same_text (name_text other) (name_text name) b))) ∙ is) rest
value_before params name other (Some v) is pairs c rest =
    value_or (bytes_eq (name_text other) (name_text name)) c v (param_of name params) (value_of (name_text name) pairs)
    (λ b. sym is ∙ ap (λ n. param_of n params) (name_text-injective other name (same_text (name_text other) (name_text name) b))) rest

value_named : (params : Params) (name : ParamName) (names : List ParamName) → value_of (name_text name) (pairs_named params names) ≡ if_among (is_among name names) (param_of name params)
value_named params name [] = refl
value_named params name (other ∷ names) =
    ap (value_of (name_text name)) (before_is params other names (param_of other params) refl)
    ∙ value_before params name other (param_of other params) refl (pairs_named params names) (is_among name names) (value_named params name names)

-- ---- the whole request

printed_or_absent : (params : Params) → IsPrinted params → (name : ParamName) → if_among (is_among name printed_names) (param_of name params) ≡ param_of name params
printed_or_absent params p ResponseType = refl
printed_or_absent params p ClientId = refl
printed_or_absent params p RedirectUri = refl
printed_or_absent params p Scope = refl
printed_or_absent params p State = refl
printed_or_absent params p Nonce = refl
printed_or_absent params p ResponseMode = sym p.no_response_mode
printed_or_absent params p Prompt = refl
printed_or_absent params p MaxAge = refl
printed_or_absent params p Claims = sym p.no_claims
printed_or_absent params p Request = refl
printed_or_absent params p RequestUri = sym p.no_request_uri
printed_or_absent params p Registration = sym p.no_registration

are_distinct : AreDistinct printed_names
are_distinct = (refl, (refl, (refl, (refl, (refl, (refl, (refl, (refl, (refl, tt)))))))))

pub printed_read : (params : Params) → IsPrinted params → request_read (request_form params) ≡ Ok params
unfolding request_read
printed_read params p =
    let pairs = request_pairs params in
    let kept : filter is_kept (form_pairs (form_text pairs)) ≡ pairs =
    ap (filter is_kept) (form_pairs-form_text pairs (texts_named params printed_names p.texts)) ∙ kept_named params printed_names p.filled in
    let none : first_repeated pairs ≡ None = repeated_none [] pairs (once_named params printed_names are_distinct) in
    let same : params_in pairs ≡ params = same_params (params_in pairs) params (λ name.
    param_of-params_by (λ n. value_of (name_text n) pairs) name ∙ value_named params name printed_names ∙ printed_or_absent params p name) in
    ap pairs_read kept ∙ ap (λ o. unless_repeated o (params_in pairs)) none ∙ ap Ok same

-- the location of a request is the endpoint and its form
pub location_is : (endpoint : Text) (params : Params) → request_location endpoint params ≡ endpoint ++ query_mark endpoint ++ request_form params
unfolding request_location with_query
location_is endpoint params = refl
