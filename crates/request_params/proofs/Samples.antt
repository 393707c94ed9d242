-- The definitions computed on forms that are read and refused, on parameters that are merged and refused, and on locations.
use Rattle.std.proofs.Common.{◌≡◌, [], ◌∷◌, codes, true, false, Option, Some, None, Result, Ok, Err, refl, sym, ap, ◌∙◌, true≢false}
use Rattle.std.specs.Str.{bytes_eq}
use Rattle.sso_base.specs.Words.{Text}
use Rattle.request_params.specs.Scheme.{split_once, scheme_of, is_bearer, IsScheme}
use Rattle.request_params.proofs.Schemes.{scheme_is, has_scheme}
use Rattle.request_params.specs.declared.params.Params.{Params}
use Rattle.request_params.specs.declared.name.ParamName.{ParamName}
use Rattle.request_params.specs.declared.name.ParamName.TheVariants.{ResponseType, ClientId, RedirectUri, Scope, State, Nonce, ResponseMode, Prompt, MaxAge, Claims, Request, RequestUri, Registration}
use Rattle.request_params.specs.declared.no.AskNo.{AskNo}
use Rattle.request_params.specs.declared.no.AskNo.TheVariants.{Twice, Differs, OuterScope}
use Rattle.request_params.specs.Names.{name_of, param_of, no_params, AreTexts}
use Rattle.request_params.specs.Form.{form_pairs}
use Rattle.request_params.specs.Reading.{request_read, kept_pairs, RepeatsFirst, HasRequest}
use Rattle.request_params.specs.Merging.{request_merged, IsOpenid, IsMerged, RefusesMerge}
use Rattle.request_params.specs.Location.{with_query, with_fragment}
use Rattle.request_params.specs.Printing.{request_form, request_location, IsPrinted}
use Rattle.request_params.specs.Signed.{outer_params, inner_params, IsSignable}
use Rattle.request_params.proofs.OnLiterals.{request_params_on_literals}
use Rattle.sso_base.proofs.Utf8Bytes.{IsUtf8-are_ascii}
use Rattle.request_params.proofs.Requests.{read-request, request-read, repeats-refused, form_refused}
use Rattle.request_params.proofs.Printed.{printed_read}
use Rattle.request_params.proofs.MergeLaws.{merged-is, is-merged, merge_refused, refused_merge}
use Rattle.request_params.proofs.Whole.{signed_whole}

abbrev none : Option ParamName
none = None

abbrev with_state : Text → Params → Params
with_state t p = record p { state = Some t }

-- ---- names

name-client_id : name_of (codes "client_id") ≡ Some ClientId
name-client_id = refl

name-not_in_capitals : name_of (codes "Client_ID") ≡ none
name-not_in_capitals = refl

-- ---- forms

pairs-of_a_form : form_pairs (codes "a=1&&b+%21=") ≡ (codes "a", codes "1") ∷ (codes "b !", []) ∷ []
unfolding request_params_on_literals
pairs-of_a_form = refl

pairs-not_utf8 : form_pairs (37 ∷ 70 ∷ 70 ∷ 61 ∷ 120 ∷ []) ≡ (0xEF ∷ 0xBF ∷ 0xBD ∷ [], codes "x") ∷ []
unfolding request_params_on_literals
pairs-not_utf8 = refl

reads-a_request : request_read (codes "x=1&client_id=a&state=&x=2&state=b") ≡ Ok (record no_params { client_id = Some (codes "a"); state = Some (codes "b") })
unfolding request_params_on_literals
reads-a_request = refl

refuses-a_name_twice : request_read (codes "scope=openid&state=&scope=openid") ≡ Err (Twice (codes "scope"))
unfolding request_params_on_literals
refuses-a_name_twice = refl

refuses-the_first_that_stands_again : request_read (codes "state=1&nonce=2&nonce=3&state=4") ≡ Err (Twice (codes "nonce"))
unfolding request_params_on_literals
refuses-the_first_that_stands_again = refl

-- the premises of the laws are met
has-a_request : HasRequest (codes "x=1&client_id=a&state=&x=2&state=b") (record no_params { client_id = Some (codes "a"); state = Some (codes "b") })
has-a_request = read-request (codes "x=1&client_id=a&state=&x=2&state=b") _ reads-a_request

repeats-scope : RepeatsFirst (kept_pairs (codes "scope=openid&state=&scope=openid")) (codes "scope")
repeats-scope = form_refused (codes "scope=openid&state=&scope=openid") _ refuses-a_name_twice

-- ---- merging

abbrev an_outer : Params
an_outer = record no_params { client_id = Some (codes "a"); response_type = Some (codes "code"); scope = Some (codes "openid"); nonce = Some (codes "n") }

merges-the_inner_first : request_merged (with_state (codes "1") an_outer) (with_state (codes "2") no_params) ≡ Ok (with_state (codes "2") an_outer)
unfolding request_params_on_literals
merges-the_inner_first = refl

merges-an_empty_inner_value : request_merged (with_state (codes "1") an_outer) (with_state [] no_params) ≡ Ok (with_state [] an_outer)
unfolding request_params_on_literals
merges-an_empty_inner_value = refl

refuses-another_client : request_merged an_outer (record no_params { client_id = Some (codes "b") }) ≡ Err (Differs (codes "client_id"))
unfolding request_params_on_literals
refuses-another_client = refl

refuses-no_client : request_merged (record an_outer { client_id = None }) (record no_params { client_id = Some (codes "a") }) ≡ Err (Differs (codes "client_id"))
unfolding request_params_on_literals
refuses-no_client = refl

refuses-another_response_type : request_merged (record an_outer { scope = None }) (record no_params { response_type = Some (codes "token") }) ≡ Err (Differs (codes "response_type"))
unfolding request_params_on_literals
refuses-another_response_type = refl

refuses-an_outer_scope_without_openid : request_merged (record an_outer { scope = Some (codes "profile") }) (record no_params { scope = Some (codes "openid") }) ≡ Err OuterScope
unfolding request_params_on_literals
refuses-an_outer_scope_without_openid = refl

is_merged-here : IsMerged an_outer (with_state [] no_params) (with_state [] an_outer)
unfolding request_params_on_literals
is_merged-here = merged-is an_outer (with_state [] no_params) (with_state [] an_outer) refl

refuses_merge-another_client : RefusesMerge an_outer (record no_params { client_id = Some (codes "b") }) (Differs (codes "client_id"))
refuses_merge-another_client = merge_refused an_outer _ _ refuses-another_client

-- ---- locations

query-first : with_query (codes "https://a.b/cb") ((codes "a b", codes "&") ∷ (codes "c", []) ∷ []) ≡ codes "https://a.b/cb?a+b=%26&c="
unfolding request_params_on_literals
query-first = refl

query-further : with_query (codes "https://a.b/cb?x") ((codes "a", codes "1") ∷ []) ≡ codes "https://a.b/cb?x&a=1"
unfolding request_params_on_literals
query-further = refl

fragment-behind_a_query : with_fragment (codes "https://a.b/cb?x") ((codes "a", codes "1") ∷ []) ≡ codes "https://a.b/cb?x#a=1"
unfolding request_params_on_literals
fragment-behind_a_query = refl

location-of_a_request : request_location (codes "https://op/authorize") (record an_outer { claims = Some (codes "x"); response_mode = Some (codes "query") })
    ≡ codes "https://op/authorize?response_type=code&client_id=a&scope=openid&nonce=n"
unfolding request_params_on_literals
location-of_a_request = refl

texts-here : AreTexts an_outer
texts-here ResponseType = IsUtf8-are_ascii (codes "code") refl
texts-here ClientId = IsUtf8-are_ascii (codes "a") refl
texts-here RedirectUri = tt
texts-here Scope = IsUtf8-are_ascii (codes "openid") refl
texts-here State = tt
texts-here Nonce = IsUtf8-are_ascii (codes "n") refl
texts-here ResponseMode = tt
texts-here Prompt = tt
texts-here MaxAge = tt
texts-here Claims = tt
texts-here Request = tt
texts-here RequestUri = tt
texts-here Registration = tt

filled-here : (name : ParamName) → ¬ (param_of name an_outer ≡ Some [])
filled-here ResponseType h = (let same : codes "code" ≡ [] = cc in cc)
filled-here ClientId h = (let same : codes "a" ≡ [] = cc in cc)
filled-here RedirectUri h = (cc)
filled-here Scope h = (let same : codes "openid" ≡ [] = cc in cc)
filled-here State h = (cc)
filled-here Nonce h = (let same : codes "n" ≡ [] = cc in cc)
filled-here ResponseMode h = (cc)
filled-here Prompt h = (cc)
filled-here MaxAge h = (cc)
filled-here Claims h = (cc)
filled-here Request h = (cc)
filled-here RequestUri h = (cc)
filled-here Registration h = (cc)

printed-here : IsPrinted an_outer
printed-here = record { texts = texts-here; filled = filled-here; no_response_mode = refl; no_claims = refl; no_request_uri = refl; no_registration = refl }

printed-not_with_claims : IsPrinted (record no_params { claims = Some [] }) → ⊥
printed-not_with_claims p = (let no : Some [] ≡ None = p.no_claims in cc)

printed-read_here : request_read (request_form an_outer) ≡ Ok an_outer
printed-read_here = printed_read an_outer printed-here

-- ---- signed requests

signable-here : IsSignable an_outer
signable-here = record { client = refl; response_type = refl; scope = refl; no_request_uri = refl; no_registration = refl }

signable-not_without_a_client : IsSignable no_params → ⊥
signable-not_without_a_client s = (let no : false ≡ true = s.client in cc)

signed-whole_here : request_merged (outer_params an_outer (codes "x.y.z")) (inner_params an_outer) ≡ Ok (record an_outer { request = Some (codes "x.y.z") })
signed-whole_here = signed_whole an_outer (codes "x.y.z") signable-here

-- ---- what the literal words refuse

abbrev read_as : Params → Result Params AskNo
read_as p = Ok p

not_both : (p : Params) (e : AskNo) → read_as p ≡ Err e → ⊥
not_both p e h = cc

has_request-not_with_a_name_twice : (p : Params) → HasRequest (codes "scope=openid&state=&scope=openid") p → ⊥
has_request-not_with_a_name_twice p has = not_both p _ (sym (request-read (codes "scope=openid&state=&scope=openid") p has) ∙ refuses-a_name_twice)

repeats-not_a_name_with_an_empty_value : (name : Text) → RepeatsFirst (kept_pairs (codes "x=1&client_id=a&state=&x=2&state=b")) name → ⊥
repeats-not_a_name_with_an_empty_value name r = not_both _ _ (sym reads-a_request ∙ repeats-refused (codes "x=1&client_id=a&state=&x=2&state=b") name r)

is_merged-not_with_another_client : (p : Params) → IsMerged an_outer (record no_params { client_id = Some (codes "b") }) p → ⊥
is_merged-not_with_another_client p m = not_both p _ (sym (is-merged an_outer (record no_params { client_id = Some (codes "b") }) p m) ∙ refuses-another_client)

refuses_merge-not_here : (e : AskNo) → RefusesMerge an_outer (with_state [] no_params) e → ⊥
refuses_merge-not_here e r = not_both _ e (sym (is-merged an_outer (with_state [] no_params) (with_state [] an_outer) is_merged-here) ∙ refused_merge an_outer (with_state [] no_params) e r)

is_openid-here : IsOpenid an_outer
is_openid-here = record { words = codes "openid"; there = refl; openid = refl }

is_openid-not_without_a_scope : IsOpenid no_params → ⊥
is_openid-not_without_a_scope o = (let no : None ≡ Some o.words = o.there in cc)

-- ---- schemes

split_once-at_the_first : split_once 58 (codes "a:b:c") ≡ Some (codes "a", codes "b:c")
split_once-at_the_first = refl

split_once-nowhere : split_once 58 (codes "abc") ≡ None
split_once-nowhere = refl

scheme-before_the_space : scheme_of (codes "Bearer x y") ≡ codes "Bearer"
scheme-before_the_space = refl

scheme-the_whole : scheme_of (codes "Bearer") ≡ codes "Bearer"
scheme-the_whole = refl

bearer-in_any_case : is_bearer (codes "bEARER") ≡ true
bearer-in_any_case = refl

bearer-not_longer : is_bearer (codes "Bearers") ≡ false
bearer-not_longer = refl

is_scheme-of_a_header : IsScheme (codes "Basic") (codes "Basic x y")
is_scheme-of_a_header = has_scheme (codes "Basic x y")

is_scheme-not_two_words : IsScheme (codes "Basic x") (codes "Basic x y") → ⊥
is_scheme-not_two_words scheme = true≢false scheme.no_space

is_scheme-not_another : IsScheme (codes "Basic") (codes "Bearer x") → ⊥
is_scheme-not_another scheme = true≢false (ap (bytes_eq (codes "Bearer")) (scheme_is (codes "Basic") (codes "Bearer x") scheme))
