-- What is read is exactly what stands in the claim set.
use Rattle.std.proofs.Common.{◌≡◌, ℕ, List, false, ◌||◌, Option, Some, None, option_map, option_and_then, is_some, Ok, codes, refl, ap, ◌∙◌}
use Rattle.std.specs.Prelude.{IfSome}
use Rattle.serde_json.specs.Data.{Data, Members, string}
use Rattle.serde_json.specs.Find.{get_member, as_str}
use Rattle.sso_base.proofs.Refusals.{and_then_ok, and_then_as_ok, forbid_ok, holds_as}
use Rattle.sso_base.specs.Texts.{has_text, is_other}
use Rattle.sso_base.proofs.Decided.{not_not, same, are_same}
use Rattle.claim_set.specs.Kinds.{of_kind, kind_found, data_texts, text_claim, texts_claim}
use Rattle.claim_set.specs.declared.no.ClaimNo.{ClaimNo}
use Rattle.claim_set.proofs.KindLaws.{text_read, text_there}
use Rattle.client_registry.specs.declared.records.Client.{Client}
use Rattle.request_params.specs.declared.params.Params.{Params}
use Rattle.request_object.specs.declared.raw.FirstClaims.{FirstClaims}
use Rattle.request_object.specs.declared.raw.LastClaims.{LastClaims}
use Rattle.request_object.specs.declared.raw.RawRequest.{RawRequest}
use Rattle.request_object.specs.declared.no.ObjNo.{ObjNo}
use Rattle.request_object.specs.declared.no.ObjNo.TheVariants.{Claims}
use Rattle.request_object.specs.Reading.{digits_in, object_text, age_claim, claims_claim, first_in, last_in, raw_in, lacks, judged, request_of}
use Rattle.request_object.specs.Object.{IsFor, HasRequest}
use Rattle.request_object.proofs.Forms.{no_digits, no_object, read_form, stands_form}

-- ---- what stands there is read

iss_read : (name id : List ℕ) (o : Option Data) → IfSome o (λ d. d ≡ string id) → of_kind name o as_str ≡ Ok (option_and_then as_str o)
iss_read name id None h = refl
iss_read name id (Some d) h = rw (h) refl

iss_is : (id : List ℕ) (o : Option Data) → IfSome o (λ d. d ≡ string id) → is_other id (option_and_then as_str o) ≡ false
iss_is id None h = refl
iss_is id (Some d) h = rw (h, same id id refl) refl

aud_read : (name issuer : List ℕ) (o : Option Data) → IfSome o (λ d. IsFor issuer d) → of_kind name o data_texts ≡ Ok (option_and_then data_texts o)
aud_read name issuer None h = refl
aud_read name issuer (Some d) h = rw (h.1) refl

aud_has : (issuer : List ℕ) (o : Option Data) → IfSome o (λ d. IsFor issuer d) → lacks issuer (option_and_then data_texts o) ≡ false
aud_has issuer None h = refl
aud_has issuer (Some d) h = rw (h.1, h.2) refl

module _ (client : Client) (issuer : List ℕ) (ms : Members) (p : Params) (has : HasRequest client issuer ms p) where
  absent : (name : List ℕ) (v : Option (List ℕ)) → get_member name ms ≡ None → v ≡ None → text_claim name ms ≡ Ok v
  absent name v h is = rw (h, is) refl

  first_of : FirstClaims
  first_of = record {
    aud = option_and_then data_texts (get_member (codes "aud") ms);
    claims = p.claims;
    client_id = p.client_id;
    iss = option_and_then as_str (get_member (codes "iss") ms);
    max_age = p.max_age;
    nonce = p.nonce;
    prompt = p.prompt;
  }

  last_of : LastClaims
  last_of = record {
    redirect_uri = p.redirect_uri;
    registration = p.registration;
    request = p.request;
    request_uri = p.request_uri;
    response_mode = p.response_mode;
    response_type = p.response_type;
    scope = p.scope;
    state = p.state;
  }

  raw_of : RawRequest
  raw_of = record { first = first_of; last = last_of }

  first_is : first_in ms ≡ Ok first_of
  unfolding first_in first_of
  first_is = rw (
    aud_read (codes "aud") issuer (get_member (codes "aud") ms) has.for_issuer,
    read_form object_text no_object (codes "claims") (get_member (codes "claims") ms) p.claims has.claims,
    text_read ms (codes "client_id") p.client_id has.client_id,
    iss_read (codes "iss") client.id (get_member (codes "iss") ms) has.from_client,
    read_form digits_in no_digits (codes "max_age") (get_member (codes "max_age") ms) p.max_age has.max_age,
    text_read ms (codes "nonce") p.nonce has.nonce,
    text_read ms (codes "prompt") p.prompt has.prompt,
  )

  last_is : last_in ms ≡ Ok last_of
  unfolding last_in last_of
  last_is = rw (
    text_read ms (codes "redirect_uri") p.redirect_uri has.redirect_uri,
    text_read ms (codes "registration") p.registration has.registration,
    absent (codes "request") p.request has.no_request has.request,
    absent (codes "request_uri") p.request_uri has.no_request_uri has.request_uri,
    text_read ms (codes "response_mode") p.response_mode has.response_mode,
    text_read ms (codes "response_type") p.response_type has.response_type,
    text_read ms (codes "scope") p.scope has.scope,
    text_read ms (codes "state") p.state has.state,
  )

  raw_is : raw_in ms ≡ Ok raw_of
  unfolding raw_of
  raw_is = rw (first_is, last_is)

  not_nested : (is_some p.request || is_some p.request_uri) ≡ false
  not_nested = rw (has.request, has.request_uri)

  judged_is : judged client issuer raw_of ≡ Ok p
  unfolding judged raw_of first_of last_of
  judged_is = rw (iss_is client.id (get_member (codes "iss") ms) has.from_client, aud_has issuer (get_member (codes "aud") ms) has.for_issuer, not_nested) refl

  pub request_of-has : request_of client issuer ms ≡ Ok p
  unfolding request_of
  request_of-has = rw (raw_is) judged_is

-- ---- what is read stands there

iss_stands : (id : List ℕ) (v : Option (List ℕ)) (o : Option Data) → o ≡ option_map string v → is_other id v ≡ false → IfSome o (λ d. d ≡ string id)
iss_stands id None o is h = rw (is) tt
iss_stands id (Some s) o is h = rw (is) (ap string (are_same s id h))

texts_stand : (name issuer : List ℕ) (d : Data) (q : Option (List (List ℕ))) → data_texts d ≡ q → (v : Option (List (List ℕ))) → kind_found name q ≡ Ok v → lacks issuer v ≡ false → IsFor issuer d
texts_stand name issuer d None is v h has = absurd (cc)
texts_stand name issuer d (Some ts) is None h has = absurd (cc)
texts_stand name issuer d (Some ts) is (Some us) h has = (us, is ∙ cc, not_not (has_text issuer us) has)

aud_stands : (name issuer : List ℕ) (o : Option Data) (v : Option (List (List ℕ))) → of_kind name o data_texts ≡ Ok v → lacks issuer v ≡ false → IfSome o (λ d. IsFor issuer d)
aud_stands name issuer None v h has = tt
aud_stands name issuer (Some d) v h has = texts_stand name issuer d (data_texts d) refl v h has

neither : (a b : Option (List ℕ)) → (is_some a || is_some b) ≡ false → (a ≡ None) × (b ≡ None)
neither None None h = (refl, refl)
neither None (Some t) h = absurd (cc)
neither (Some s) b h = absurd (cc)

nothing : (o : Option Data) (v : Option (List ℕ)) → o ≡ option_map string v → v ≡ None → o ≡ None
nothing o v is h = is ∙ ap (option_map string) h

-- the claims, as far as they are there
record HasFirst (ms : Members) (r : FirstClaims) : Type 0 where
  aud : texts_claim (codes "aud") ms ≡ Ok r.aud
  claims : claims_claim ms ≡ Ok r.claims
  client_id : get_member (codes "client_id") ms ≡ option_map string r.client_id
  iss : get_member (codes "iss") ms ≡ option_map string r.iss
  max_age : age_claim ms ≡ Ok r.max_age
  nonce : get_member (codes "nonce") ms ≡ option_map string r.nonce
  prompt : get_member (codes "prompt") ms ≡ option_map string r.prompt

record HasLast (ms : Members) (r : LastClaims) : Type 0 where
  redirect_uri : get_member (codes "redirect_uri") ms ≡ option_map string r.redirect_uri
  registration : get_member (codes "registration") ms ≡ option_map string r.registration
  request : get_member (codes "request") ms ≡ option_map string r.request
  request_uri : get_member (codes "request_uri") ms ≡ option_map string r.request_uri
  response_mode : get_member (codes "response_mode") ms ≡ option_map string r.response_mode
  response_type : get_member (codes "response_type") ms ≡ option_map string r.response_type
  scope : get_member (codes "scope") ms ≡ option_map string r.scope
  state : get_member (codes "state") ms ≡ option_map string r.state

first_stands : (ms : Members) (r : FirstClaims) → first_in ms ≡ Ok r → HasFirst ms r
unfolding first_in
first_stands ms r h =
    let aud = and_then_ok (texts_claim (codes "aud") ms) _ r h in
    let claims = and_then_ok (claims_claim ms) _ r aud.2 in
    let client_id = and_then_ok (text_claim (codes "client_id") ms) _ r claims.2 in
    let iss = and_then_ok (text_claim (codes "iss") ms) _ r client_id.2 in
    let max_age = and_then_ok (age_claim ms) _ r iss.2 in
    let nonce = and_then_ok (text_claim (codes "nonce") ms) _ r max_age.2 in
    let prompt = and_then_ok (text_claim (codes "prompt") ms) _ r nonce.2 in
    holds_as ClaimNo (HasFirst ms) _ r prompt.2 (record {
      aud = aud.1;
      claims = claims.1;
      client_id = text_there ms (codes "client_id") client_id.0 client_id.1;
      iss = text_there ms (codes "iss") iss.0 iss.1;
      max_age = max_age.1;
      nonce = text_there ms (codes "nonce") nonce.0 nonce.1;
      prompt = text_there ms (codes "prompt") prompt.0 prompt.1;
    })

last_stands : (ms : Members) (r : LastClaims) → last_in ms ≡ Ok r → HasLast ms r
unfolding last_in
last_stands ms r h =
    let redirect_uri = and_then_ok (text_claim (codes "redirect_uri") ms) _ r h in
    let registration = and_then_ok (text_claim (codes "registration") ms) _ r redirect_uri.2 in
    let request = and_then_ok (text_claim (codes "request") ms) _ r registration.2 in
    let request_uri = and_then_ok (text_claim (codes "request_uri") ms) _ r request.2 in
    let response_mode = and_then_ok (text_claim (codes "response_mode") ms) _ r request_uri.2 in
    let response_type = and_then_ok (text_claim (codes "response_type") ms) _ r response_mode.2 in
    let scope = and_then_ok (text_claim (codes "scope") ms) _ r response_type.2 in
    let state = and_then_ok (text_claim (codes "state") ms) _ r scope.2 in
    holds_as ClaimNo (HasLast ms) _ r state.2 (record {
      redirect_uri = text_there ms (codes "redirect_uri") redirect_uri.0 redirect_uri.1;
      registration = text_there ms (codes "registration") registration.0 registration.1;
      request = text_there ms (codes "request") request.0 request.1;
      request_uri = text_there ms (codes "request_uri") request_uri.0 request_uri.1;
      response_mode = text_there ms (codes "response_mode") response_mode.0 response_mode.1;
      response_type = text_there ms (codes "response_type") response_type.0 response_type.1;
      scope = text_there ms (codes "scope") scope.0 scope.1;
      state = text_there ms (codes "state") state.0 state.1;
    })

-- both halves of the claims
abbrev HasRaw : Members → RawRequest → Type 0
HasRaw ms r = HasFirst ms r.first × HasLast ms r.last

raw_stands : (ms : Members) (r : RawRequest) → raw_in ms ≡ Ok r → HasRaw ms r
raw_stands ms r h =
    let first = and_then_ok (first_in ms) _ r h in
    let last = and_then_ok (last_in ms) _ r first.2 in
    holds_as ClaimNo (HasRaw ms) _ r last.2 (first_stands ms first.0 first.1, last_stands ms last.0 last.1)

judged_stands : (client : Client) (issuer : List ℕ) (ms : Members) (r : RawRequest) (p : Params) → HasRaw ms r → judged client issuer r ≡ Ok p → HasRequest client issuer ms p
unfolding judged
judged_stands client issuer ms r p raw h =
    let iss = forbid_ok _ (is_other client.id r.first.iss) _ p h in
    let aud = forbid_ok _ (lacks issuer r.first.aud) _ p iss.1 in
    let nested = forbid_ok _ (is_some r.last.request || is_some r.last.request_uri) _ p aud.1 in
    let none = neither r.last.request r.last.request_uri nested.0 in
    holds_as ObjNo (HasRequest client issuer ms) _ p nested.1 (record {
      from_client = iss_stands client.id r.first.iss (get_member (codes "iss") ms) raw.0.iss iss.0;
      for_issuer = aud_stands (codes "aud") issuer (get_member (codes "aud") ms) r.first.aud raw.0.aud aud.0;
      response_type = raw.1.response_type;
      client_id = raw.0.client_id;
      redirect_uri = raw.1.redirect_uri;
      scope = raw.1.scope;
      state = raw.1.state;
      nonce = raw.0.nonce;
      response_mode = raw.1.response_mode;
      prompt = raw.0.prompt;
      max_age = stands_form digits_in (codes "max_age") (get_member (codes "max_age") ms) r.first.max_age raw.0.max_age;
      claims = stands_form object_text (codes "claims") (get_member (codes "claims") ms) r.first.claims raw.0.claims;
      registration = raw.1.registration;
      no_request = nothing (get_member (codes "request") ms) r.last.request raw.1.request none.0;
      no_request_uri = nothing (get_member (codes "request_uri") ms) r.last.request_uri raw.1.request_uri none.1;
      request = none.0;
      request_uri = none.1;
    })

pub has-request_of : (client : Client) (issuer : List ℕ) (ms : Members) (p : Params) → request_of client issuer ms ≡ Ok p → HasRequest client issuer ms p
unfolding request_of
has-request_of client issuer ms p h =
    let raw = and_then_as_ok Claims (raw_in ms) (judged client issuer) p h in
    judged_stands client issuer ms raw.0 p (raw_stands ms raw.0 raw.1) raw.2
