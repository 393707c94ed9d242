-- The definitions computed on small cases: what each accepts, and what it refuses.
use Rattle.std.proofs.Common.{◌≡◌, ◌≤◌, ◌^◌, inr, ℕ, List, [], ◌∷◌, true, false, codes, Option, Some, None, Result, Ok, Err, nat_lt, refl, sym, ◌∙◌, true≢false, length, arith}
use Rattle.std.specs.Prelude.{negsuc}
use Rattle.std.specs.Str.{is_utf8}
use Rattle.std.specs.List.{list_all}
use Rattle.std.proofs.lemmas.Str.{is_utf8-from_IsUtf8}
use Rattle.json.proofs.Printed.Utf8.{IsUtf8-are_ascii}
use Rattle.serde_json.specs.Data.{Members, no_members, member, string, number, unsigned, negative, boolean, object, array, no_items}
use Rattle.sso_base.specs.Refusals.{first_refusal}
use Rattle.sso_base.specs.Texts.{has_text}
use Rattle.claim_set.specs.Reading.{claims_read, claims_text}
use Rattle.claim_set.specs.declared.no.ClaimNo.TheVariants.{NotObject, WrongKind}
use Rattle.claim_set.proofs.OnLiterals.{claims_on_literals}
use Rattle.claim_set.proofs.Parsing.{read_reads}
use Rattle.jws_compact.specs.Jws.{header_bytes, seal_text}
use Rattle.jws_compact.specs.declared.sealing.Typ.TheVariants.{Jwt}
use Rattle.jws_compact.specs.declared.no.JwsNo.TheVariants.{BadMac}
use Rattle.jws_compact.specs.declared.no.JwsNo.TheVariants as jws
use Rattle.jws_compact.proofs.OnLiterals.{jws_on_literals}
use Rattle.client_registry.specs.declared.records.Client.{Client}
use Rattle.client_keys.specs.Opening.{SealedFor, opening}
use Rattle.request_params.specs.declared.params.Params.{Params}
use Rattle.request_object.specs.declared.no.ObjNo.{ObjNo}
use Rattle.request_object.specs.declared.no.ObjNo.TheVariants.{Jws, Claims, Issuer, Audience, Nested}
use Rattle.request_object.specs.Request.{request_members, request_text}
use Rattle.request_object.specs.Sealing.{IsSealable, HasTexts}
use Rattle.request_object.specs.Reading.{digits_in, object_text, text_or, lacks, first_in, last_in, judged, request_of, request_read, hides_memory}
use Rattle.request_object.specs.Object.{IsFor, StandsAs, HasRequest, IsRequestObject, request_refusals}
use Rattle.request_object.proofs.Standing.{has-request_of}
use Rattle.request_object.proofs.Objects.{request_read-object, object-request_read, unread, refused as refused_first}
use Rattle.request_object.proofs.Fitting.{fits-request_members}
use Rattle.request_object.proofs.Written.{request_read-request_text}
use Rattle.jws_compact.proofs.Written.{written_sealed}
use Rattle.sso_base.proofs.Spelling.{IsBytes-from_all_bytes}

abbrev shop : Client
shop = record { id = codes "c"; secret = codes "key"; old_secret = None; seals_old = false; redirects = []; types = []; pairwise = false; asks_consent = false; logout = None; logout_session = false; redirect_urls = []; logout_url = None; title = [] }

-- a request with a scope, an age and, where there is one, another request inside
abbrev asking : Option (List ℕ) → Params
asking inside = record {
  response_type = Some (codes "code");
  client_id = Some (codes "c");
  redirect_uri = None;
  scope = Some (codes "openid");
  state = Some [];
  nonce = None;
  response_mode = None;
  prompt = None;
  max_age = Some (codes "10");
  claims = None;
  request = inside;
  request_uri = None;
  registration = None;
}

abbrev plain : Params
plain = asking None

-- a request without a parameter
abbrev nothing : Params
nothing = record { response_type = None; client_id = None; redirect_uri = None; scope = None; state = None; nonce = None; response_mode = None; prompt = None; max_age = None; claims = None; request = None; request_uri = None; registration = None }

abbrev refused : ObjNo → Result Params ObjNo
refused e = Err e

-- ---- the forms of a parameter

a_string_is_itself : text_or digits_in (string (codes "10")) ≡ Some (codes "10")
a_string_is_itself = refl

a_number_is_its_digits : text_or digits_in (number (unsigned 86400)) ≡ Some (codes "86400")
unfolding claims_on_literals
a_number_is_its_digits = refl

the_largest_age : text_or digits_in (number (unsigned 1099511627775)) ≡ Some (codes "1099511627775")
unfolding claims_on_literals
the_largest_age = refl

an_age_is_below_2_to_the_40th : text_or digits_in (number (unsigned (2 ^ 40))) ≡ None
an_age_is_below_2_to_the_40th = refl

a_negative_number_is_no_age : text_or digits_in (number (negative (negsuc 4))) ≡ None
a_negative_number_is_no_age = refl

an_object_is_its_text : text_or object_text (object (member (codes "userinfo") (object no_members) no_members)) ≡ Some (codes "{\"userinfo\":{}}")
unfolding claims_on_literals
an_object_is_its_text = refl

an_age_is_no_flag : text_or digits_in (boolean true) ≡ None
an_age_is_no_flag = refl

an_age_is_no_object : text_or digits_in (object no_members) ≡ None
an_age_is_no_object = refl

a_number_stands_as_its_digits : StandsAs digits_in (Some (number (unsigned 10))) (Some (codes "10"))
unfolding claims_on_literals
a_number_stands_as_its_digits = inr refl

a_number_is_not_absent : StandsAs digits_in (Some (number (unsigned 10))) None → ⊥
a_number_is_not_absent h = h

-- ---- the audience

in_the_audience : lacks (codes "i") (Some (codes "x" ∷ codes "i" ∷ [])) ≡ false
in_the_audience = refl

not_in_the_audience : lacks (codes "i") (Some (codes "x" ∷ [])) ≡ true
not_in_the_audience = refl

for_the_issuer_alone : IsFor (codes "i") (string (codes "i"))
for_the_issuer_alone = (codes "i" ∷ [], refl, refl)

for_nobody : IsFor (codes "i") (array no_items) → ⊥
for_nobody (ts, is, among) = no_text ts is among where
  no_text : (ts : List (List ℕ)) → Some [] ≡ Some ts → has_text (codes "i") ts ≡ true → ⊥
  no_text [] is among = true≢false (sym among)
  no_text (t ∷ ts) is among = absurd (cc)

-- ---- claim sets

text-of_plain : claims_text (request_members shop (codes "i") plain) ≡ codes "{\"aud\":\"i\",\"client_id\":\"c\",\"iss\":\"c\",\"max_age\":\"10\",\"response_type\":\"code\",\"scope\":\"openid\",\"state\":\"\"}"
unfolding claims_on_literals request_members
text-of_plain = refl

request_of-plain : request_of shop (codes "i") (request_members shop (codes "i") plain) ≡ Ok plain
unfolding claims_on_literals request_members request_of first_in last_in judged
request_of-plain = refl

plain-stands_there : HasRequest shop (codes "i") (request_members shop (codes "i") plain) plain
plain-stands_there = has-request_of shop (codes "i") (request_members shop (codes "i") plain) plain request_of-plain

plain-stands_not_in_no_claims : HasRequest shop (codes "i") no_members plain → ⊥
plain-stands_not_in_no_claims has = cc has.scope

request_of-no_claims : request_of shop (codes "i") no_members ≡ Ok nothing
unfolding claims_on_literals request_of first_in last_in judged
request_of-no_claims = refl

-- of a number as `state`, another issuer, another audience and a request inside, the first that is there counts
abbrev worse : Members → Members
worse rest = member (codes "request") (string []) rest

refused-for_another_kind : first_refusal (request_refusals shop (codes "i") (member (codes "iss") (string (codes "x")) (member (codes "state") (number (unsigned 1)) no_members))) ≡ Err (Claims (WrongKind (codes "state")))
refused-for_another_kind = refl

refused-for_another_issuer : first_refusal (request_refusals shop (codes "i") (member (codes "aud") (string (codes "x")) (member (codes "iss") (string (codes "i")) no_members))) ≡ Err Issuer
refused-for_another_issuer = refl

refused-for_another_audience : first_refusal (request_refusals shop (codes "i") (member (codes "aud") (string (codes "x")) (worse no_members))) ≡ Err Audience
refused-for_another_audience = refl

refused-for_a_request_inside : first_refusal (request_refusals shop (codes "i") (worse no_members)) ≡ Err Nested
refused-for_a_request_inside = refl

not_refused-plain : first_refusal (request_refusals shop (codes "i") (request_members shop (codes "i") plain)) ≡ Ok tt
unfolding request_members
not_refused-plain = refl

-- ---- texts

abbrev literal : List ℕ
literal = seal_text (codes "key") Jwt (codes "{\"scope\":\"openid\",\"iss\":\"c\",\"aud\":[\"x\",\"i\"],\"max_age\":10, \"response_type\":\"code\",\"client_id\":\"c\",\"state\":\"\",\"exp\":1}")

read-a_literal : request_read shop (codes "i") literal ≡ Ok plain
unfolding jws_on_literals claims_on_literals opening request_read request_of first_in last_in judged
read-a_literal = refl

is_an_object : IsRequestObject shop (codes "i") literal plain
is_an_object = request_read-object shop (codes "i") literal plain read-a_literal

abbrev forged : List ℕ
forged = seal_text (codes "yek") Jwt (codes "{}")

read-under_another_key : request_read shop (codes "i") forged ≡ refused (Jws BadMac)
unfolding jws_on_literals claims_on_literals opening request_read request_of first_in last_in judged
read-under_another_key = refl

-- the client with an old secret, under which that text is sealed; and the same where the old secret seals
abbrev changing : Client
changing = record shop { old_secret = Some (codes "yek") }

read-under_the_old_secret : request_read changing (codes "i") forged ≡ Ok nothing
unfolding jws_on_literals claims_on_literals opening request_read request_of first_in last_in judged
read-under_the_old_secret = refl

text-under_the_secret_that_seals : request_text (record changing { seals_old = true }) (codes "i") plain ≡ seal_text (codes "yek") Jwt (claims_text (request_members shop (codes "i") plain))
unfolding request_text request_members
text-under_the_secret_that_seals = refl

no_object-under_another_key : IsRequestObject shop (codes "i") forged nothing → ⊥
no_object-under_another_key h = let read = sym (object-request_read shop (codes "i") forged nothing h) ∙ read-under_another_key in cc read

-- the premises of the laws on refusals are met: a payload that is no object, and a request inside
sealed_as : (p : List ℕ) → list_all (λ b. nat_lt b 256) p ≡ true → length p ≤ 6000 → SealedFor shop (header_bytes Jwt) p (seal_text (codes "key") Jwt p)
sealed_as p bytes short = record { secret = codes "key"; own = refl; sealed = written_sealed (codes "key") p Jwt (IsBytes-from_all_bytes p bytes) short }

not_an_object : claims_read (codes "[]") ≡ Err NotObject
unfolding claims_on_literals
not_an_object = refl

unread-here : request_read shop (codes "i") (seal_text (codes "key") Jwt (codes "[]")) ≡ refused (Claims NotObject)
unread-here = unread shop (codes "i") _ (codes "[]") _ NotObject (sealed_as (codes "[]") refl (omega arith)) not_an_object

nested_stands : claims_read (codes "{\"request\":\"\"}") ≡ Ok (worse no_members)
unfolding claims_on_literals
nested_stands = refl

nested-here : request_read shop (codes "i") (seal_text (codes "key") Jwt (codes "{\"request\":\"\"}")) ≡ refused Nested
nested-here = refused_first shop (codes "i") _ (codes "{\"request\":\"\"}") _ (worse no_members) Nested (sealed_as (codes "{\"request\":\"\"}") refl (omega arith)) (read_reads (codes "{\"request\":\"\"}") (worse no_members) nested_stands) refl

hides-where_memory_ran_out_inside : hides_memory (Jws jws.NoMemory) ≡ true
hides-where_memory_ran_out_inside = refl

hides-not_in_a_cause : hides_memory (Jws BadMac) ≡ false
hides-not_in_a_cause = refl

-- ---- parameters that can be sealed

texts-plain : HasTexts shop (codes "i") plain
texts-plain = record {
  id = IsUtf8-are_ascii (codes "c") refl;
  issuer_text = IsUtf8-are_ascii (codes "i") refl;
  response_type = IsUtf8-are_ascii (codes "code") refl;
  client_id = IsUtf8-are_ascii (codes "c") refl;
  redirect_uri = tt;
  scope = IsUtf8-are_ascii (codes "openid") refl;
  state = IsUtf8-are_ascii [] refl;
  nonce = tt;
  response_mode = tt;
  prompt = tt;
  max_age = IsUtf8-are_ascii (codes "10") refl;
  claims = tt;
}

no_text : is_utf8 (255 ∷ []) ≡ false
unfolding claims_on_literals
no_text = refl

texts-not_of_other_bytes : HasTexts shop (255 ∷ []) plain → ⊥
texts-not_of_other_bytes h = true≢false (sym (is_utf8-from_IsUtf8 (255 ∷ []) h.issuer_text) ∙ no_text)

short-plain : length (claims_text (request_members shop (codes "i") plain)) ≤ 6000
unfolding claims_on_literals request_members
short-plain = omega arith

sealable-plain : IsSealable shop (codes "i") plain
sealable-plain = record { fits = fits-request_members shop (codes "i") plain texts-plain; short = short-plain; request = refl; request_uri = refl; registration = refl }

plain_is_read : request_read shop (codes "i") (request_text shop (codes "i") plain) ≡ Ok plain
plain_is_read = request_read-request_text shop (codes "i") plain sealable-plain

not_sealable-with_a_request_inside : IsSealable shop (codes "i") (asking (Some [])) → ⊥
not_sealable-with_a_request_inside s = cc (s.request)
