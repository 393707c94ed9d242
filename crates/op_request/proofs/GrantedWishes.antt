-- A wish is granted by the judgement alone: of a request's parameters, with those of a request object that is accepted.
use Rattle.std.proofs.Common.{◌≡◌, inl, inr, ℕ, Bool, true, false, true≢false, Option, Some, None, option_and_then, Result, Ok, Err, slice_get, refl, sym, ◌∙◌, ap, arith}
use Rattle.std.specs.Result.{result_ok}
use Rattle.sso_base.specs.Words.{Word, Text}
use Rattle.sso_base.specs.declared.http.Ask.{Ask}
use Rattle.sso_base.proofs.Refusals.{none_holds}
use Rattle.client_registry.specs.declared.records.Client.{Client}
use Rattle.client_registry.specs.Records.{client_place}
use Rattle.client_registry.specs.Configuration.{Configuration}
use Rattle.request_params.specs.declared.params.Params.{Params}
use Rattle.request_params.specs.declared.no.AskNo.{AskNo}
use Rattle.request_params.specs.Reading.{HasRequest}
use Rattle.request_params.specs.Merging.{request_merged, IsMerged}
use Rattle.request_params.proofs.Requests.{read-request, request-read}
use Rattle.request_params.proofs.MergeLaws.{merged-is, is-merged}
use Rattle.request_params.specs.Form.{form_of}
use Rattle.auth_request.specs.declared.wish.Wish.{Wish}
use Rattle.auth_request.specs.declared.wish.Verdict.TheVariants.{Grant}
use Rattle.auth_request.specs.Parameters.{asking_of}
use Rattle.auth_request.specs.Judgement.{errors, judgement}
use Rattle.auth_request.specs.Granted.{ClientsAreApart}
use Rattle.auth_request.proofs.Reaching.{granted, wish_is}
use Rattle.request_object.specs.declared.no.ObjNo.{ObjNo}
use Rattle.request_object.specs.Reading.{request_read as object_read}
use Rattle.request_object.specs.Object.{IsRequestObject}
use Rattle.request_object.proofs.Objects.{request_read-object, object-request_read}
use Rattle.token_endpoint.proofs.Clients.{place_found, place_of_client}
use Rattle.op_exchange.specs.declared.ask.OpAsk.TheVariants.{Authorize}
use Rattle.op_request.specs.declared.routes.Endpoint.TheVariants.{Authorization}
use Rattle.op_request.specs.Prepared.{client_named, with_object, judged_whole, judged_by, judged, authorization_asked, prepared}
use Rattle.op_request.specs.Requests.{IsTo, IsWhole, IsGranted}
use Rattle.op_request.proofs.Routing.{prepared_at}
use Rattle.op_request.proofs.LedTo.{led_to}

-- ---- request objects

merged_at : (r : Result Params AskNo) (whole : Params) → result_ok r ≡ Some whole → r ≡ Ok whole
merged_at (Ok p) whole h = let same : p ≡ whole = cc in ap Ok same
merged_at (Err e) whole h = absurd (cc)

record Accepted (client : Client) (issuer object : Text) (beside whole : Params) : Type 0 where
  inside : Params
  is_object : IsRequestObject client issuer object inside
  merged : IsMerged beside inside whole

read_at : (client : Client) (issuer object : Text) (beside whole : Params) (r : Result Params ObjNo) → object_read client issuer object ≡ r
    → option_and_then (λ inside. result_ok (request_merged beside inside)) (result_ok r) ≡ Some whole → Accepted client issuer object beside whole
read_at client issuer object beside whole (Ok inside) is h =
    record {
      inside = inside;
      is_object = request_read-object client issuer object inside is;
      merged = merged-is beside inside whole (merged_at (request_merged beside inside) whole h);
    }
read_at client issuer object beside whole (Err e) is h = absurd (cc)

accepted : (c : Configuration) (client : Client) (beside : Params) (object : Text) (whole : Params) → with_object c client beside object ≡ Some whole → Accepted client c.provider.issuer object beside whole
accepted c client beside object whole h = read_at client c.provider.issuer object beside whole (object_read client c.provider.issuer object) refl h

accepts : (c : Configuration) (client : Client) (beside inside whole : Params) (object : Text) → IsRequestObject client c.provider.issuer object inside → IsMerged beside inside whole
    → with_object c client beside object ≡ Some whole
accepts c client beside inside whole object is merged =
    ap (λ r. option_and_then (λ p. result_ok (request_merged beside p)) (result_ok r)) (object-request_read client c.provider.issuer object inside is)
    ∙ ap result_ok (is-merged beside inside whole merged)

-- ---- the client

record Named (c : Configuration) (p : Params) (client : Client) : Type 0 where
  number : ℕ
  there : slice_get c.clients number ≡ Some client
  named : p.client_id ≡ Some client.id

same_client : (k l : Client) → Some k ≡ Some l → k ≡ l
same_client k l h = cc

number_at : (c : Configuration) (p : Params) (client : Client) (id : Text) (n : ℕ) → p.client_id ≡ Some id → client_place id c.clients ≡ Some n → slice_get c.clients n ≡ Some client → Named c p client
number_at c p client id n is place there =
    let f = place_found id c.clients n place in
    let past : f.past ≡ n = omega (arith, f.at) in
    let same : f.client ≡ client = same_client f.client client (sym f.there ∙ ap (slice_get c.clients) past ∙ there) in
    record { number = n; there = there; named = is ∙ ap Some (sym f.named ∙ ap (λ (k : Client). k.id) same) }

place_at : (c : Configuration) (p : Params) (client : Client) (id : Text) (o : Option ℕ) → p.client_id ≡ Some id → client_place id c.clients ≡ o → option_and_then (slice_get c.clients) o ≡ Some client → Named c p client
place_at c p client id None is place h = absurd (cc)
place_at c p client id (Some n) is place h = number_at c p client id n is place h

id_at : (c : Configuration) (p : Params) (client : Client) (o : Option Text) → p.client_id ≡ o → option_and_then (slice_get c.clients) (option_and_then (λ id. client_place id c.clients) o) ≡ Some client → Named c p client
id_at c p client None is h = absurd (cc)
id_at c p client (Some id) is h = place_at c p client id (client_place id c.clients) is refl h

is_named : (c : Configuration) (p : Params) (client : Client) → client_named c p ≡ Some client → Named c p client
is_named c p client h = id_at c p client p.client_id refl h

pub named_is : (c : Configuration) (p : Params) (n : ℕ) (client : Client) → ClientsAreApart c → slice_get c.clients n ≡ Some client → p.client_id ≡ Some client.id → client_named c p ≡ Some client
named_is c p n client apart there named =
    ap (λ o. option_and_then (slice_get c.clients) (option_and_then (λ id. client_place id c.clients) o)) named
    ∙ ap (option_and_then (slice_get c.clients)) (place_of_client c.clients n client apart there)
    ∙ there

-- ---- no other way to a wish

-- a request whose object was refused is granted nothing
no_grant : (c : Configuration) (p : Params) (w : Wish) → judgement c p true ≡ Grant w → ⊥
unfolding errors
no_grant c p w h =
    let r = granted c p true w h in
    let none = none_holds (errors r.client p (asking_of p) true) (wish_is c p true w r).0 in
    true≢false none.1.1.0

some_client : (k : Client) → Some k ≡ None → ⊥
some_client k h = cc

no_client : (c : Configuration) (p : Params) (b : Bool) (w : Wish) → client_named c p ≡ None → judgement c p b ≡ Grant w → ⊥
no_client c p b w none h =
    let r = granted c p b w h in
    let there : client_named c p ≡ Some r.client = ap (option_and_then (slice_get c.clients)) r.found ∙ r.there in
    some_client r.client (sym there ∙ none)

record Judged (c : Configuration) (beside : Params) (w : Wish) : Type 0 where
  whole : Params
  is_whole : IsWhole c beside whole
  granted : judgement c whole false ≡ Grant w

whole_granted : (c : Configuration) (client : Client) (beside : Params) (object : Text) (w : Wish) → client_named c beside ≡ Some client → beside.request ≡ Some object
    → (o : Option Params) → with_object c client beside object ≡ o → judged_whole c beside o ≡ Grant w → Judged c beside w
whole_granted c client beside object w named stands None is h = absurd (no_grant c beside w h)
whole_granted c client beside object w named stands (Some whole) is h =
    let a = accepted c client beside object whole is in
    let n = is_named c beside client named in
    record {
      whole = whole;
      is_whole = inr (a.inside, record { object = object; stands = stands; number = n.number; client = client; there = n.there; named = n.named; is_object = a.is_object }, a.merged);
      granted = h;
    }

granted_by : (c : Configuration) (beside : Params) (w : Wish) (k : Option Client) (o : Option Text) → client_named c beside ≡ k → beside.request ≡ o → judged_by c beside k o ≡ Grant w → Judged c beside w
granted_by c beside w (Some client) (Some object) named stands h = whole_granted c client beside object w named stands (with_object c client beside object) refl h
granted_by c beside w (Some client) None named stands h = record { whole = beside; is_whole = inl (stands, refl); granted = h }
granted_by c beside w None (Some object) named stands h = absurd (no_client c beside false w named h)
granted_by c beside w None None named stands h = record { whole = beside; is_whole = inl (stands, refl); granted = h }

judged_granted : (c : Configuration) (beside : Params) (w : Wish) → judged c beside ≡ Grant w → Judged c beside w
judged_granted c beside w h = granted_by c beside w (client_named c beside) beside.request refl refl h

pub wish_granted : (c : Configuration) (request : Ask) (w : Wish) (browser session : Option Word) → prepared c request ≡ Authorize (Grant w) browser session
    → IsGranted c (form_of request.method request) w
wish_granted c request w browser session h =
    let l = led_to c request (Authorize (Grant w) browser session) h in
    let j = judged_granted c l.params w (sym l.verdict) in
    record { beside = l.params; read = read-request (form_of request.method request) l.params l.read; whole = j.whole; is_whole = j.is_whole; granted = j.granted }

-- ---- the other way round

alone : (c : Configuration) (beside : Params) (k : Option Client) → judged_by c beside k None ≡ judgement c beside false
alone c beside (Some client) = refl
alone c beside None = refl

by_whole : (c : Configuration) (beside whole : Params) → ClientsAreApart c → IsWhole c beside whole → judged c beside ≡ judgement c whole false
by_whole c beside whole apart (inl (none, same)) =
    ap (judged_by c beside (client_named c beside)) none ∙ alone c beside (client_named c beside) ∙ ap (λ p. judgement c p false) (sym same)
by_whole c beside whole apart (inr (inside, has, merged)) =
    ap (λ k. judged_by c beside k beside.request) (named_is c beside has.number has.client apart has.there has.named)
    ∙ ap (judged_by c beside (Some has.client)) has.stands
    ∙ ap (judged_whole c beside) (accepts c has.client beside inside whole has.object has.is_object merged)

pub judged_request : (c : Configuration) (request : Ask) (beside whole : Params) → ClientsAreApart c → IsTo c request Authorization → HasRequest (form_of request.method request) beside → IsWhole c beside whole
    → prepared c request ≡ Authorize (judgement c whole false) request.first request.second
judged_request c request beside whole apart to read is =
    prepared_at c request Authorization to
    ∙ ap (authorization_asked c request) (request-read (form_of request.method request) beside read)
    ∙ ap (λ v. Authorize v request.first request.second) (by_whole c beside whole apart is)

pub granted_wish : (c : Configuration) (request : Ask) (w : Wish) → ClientsAreApart c → IsTo c request Authorization → IsGranted c (form_of request.method request) w
    → prepared c request ≡ Authorize (Grant w) request.first request.second
granted_wish c request w apart to g =
    judged_request c request g.beside g.whole apart to g.read g.is_whole ∙ ap (λ v. Authorize v request.first request.second) g.granted

-- ---- a refused object

refused_at : (c : Configuration) (client : Client) (beside : Params) (object : Text) → ((inside whole : Params) → IsRequestObject client c.provider.issuer object inside → IsMerged beside inside whole → ⊥)
    → (o : Option Params) → with_object c client beside object ≡ o → judged_whole c beside o ≡ judgement c beside true
refused_at c client beside object none None is = refl
refused_at c client beside object none (Some whole) is =
    let a = accepted c client beside object whole is in absurd (none a.inside whole a.is_object a.merged)

pub object_refused : (c : Configuration) (request : Ask) (beside : Params) (n : ℕ) (client : Client) (object : Text) → ClientsAreApart c → IsTo c request Authorization
    → HasRequest (form_of request.method request) beside → slice_get c.clients n ≡ Some client → beside.client_id ≡ Some client.id → beside.request ≡ Some object
    → ((inside whole : Params) → IsRequestObject client c.provider.issuer object inside → IsMerged beside inside whole → ⊥)
    → prepared c request ≡ Authorize (judgement c beside true) request.first request.second
object_refused c request beside n client object apart to read there named stands none =
    prepared_at c request Authorization to
    ∙ ap (authorization_asked c request) (request-read (form_of request.method request) beside read)
    ∙ ap (λ v. Authorize v request.first request.second)
    (ap (λ k. judged_by c beside k beside.request) (named_is c beside n client apart there named)
    ∙ ap (judged_by c beside (Some client)) stands
    ∙ refused_at c client beside object none (with_object c client beside object) refl)
