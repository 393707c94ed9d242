-- What a judgement that is no page has found on its way.
use Rattle.std.proofs.Common.{◌≡◌, ◌<◌, ℕ, List, Bool, true, false, cond, length, Option, Some, None, option_and_then, slice_get, Result, Ok, Err, refl, sym, ap, ◌∙◌}
use Rattle.sso_base.specs.Refusals.{first_refusal}
use Rattle.sso_base.specs.Texts.{has_text}
use Rattle.client_registry.specs.declared.records.Client.{Client}
use Rattle.client_registry.specs.Records.{client_place}
use Rattle.client_registry.specs.Configuration.{Configuration}
use Rattle.request_params.specs.declared.params.Params.{Params}
use Rattle.auth_request.specs.declared.wish.Wish.{Wish}
use Rattle.oidc_words.specs.declared.errors.Refusal.{Refusal}
use Rattle.oidc_words.specs.declared.errors.AuthError.{AuthError}
use Rattle.auth_request.specs.declared.wish.PageNo.{PageNo}
use Rattle.auth_request.specs.declared.wish.PageNo.TheVariants.{Client as NoClient, Redirect as NoRedirect}
use Rattle.auth_request.specs.declared.wish.Verdict.{Verdict}
use Rattle.auth_request.specs.declared.wish.Verdict.TheVariants.{Page, Refuse, Grant}
use Rattle.auth_request.specs.Parameters.{asking_of}
use Rattle.auth_request.specs.Judgement.{client_number, redirect_of, errors, refusal_of, wish_of, answer, page_or, judgement}
use Rattle.auth_request.specs.Granted.{ClientsAreApart, IsRegistered}
use Rattle.auth_request.proofs.Places.{has_id, only_place}
use Rattle.auth_request.proofs.Numbers.{below}

pub record Reaches (c : Configuration) (p : Params) (b : Bool) (v : Verdict) : Type 0 where
  pub number : ℕ
  pub client : Client
  pub uri : List ℕ
  pub found : client_number c p ≡ Some number
  pub there : slice_get c.clients number ≡ Some client
  pub own : redirect_of client p.redirect_uri ≡ Some uri
  pub answered : answer number uri p (asking_of p) (first_refusal (errors client p (asking_of p) b)) ≡ v

abbrev IsNoPage : Verdict → Type 0
IsNoPage v = (y : PageNo) → Page y ≡ v → ⊥

past : {A : Type 0} (why : PageNo) (o : Option A) (f : A → Verdict) (v : Verdict) → IsNoPage v → page_or why o f ≡ v → (a : A) × (o ≡ Some a) × (f a ≡ v)
past why None f v other h = absurd (other why h)
past why (Some a) f v other h = (a, refl, h)

reaches : (c : Configuration) (p : Params) (b : Bool) (v : Verdict) → IsNoPage v → judgement c p b ≡ v → Reaches c p b v
unfolding judgement
reaches c p b v other h =
    let n = past NoClient (client_number c p) _ v other h in
    let k = past NoClient (slice_get c.clients n.0) _ v other n.2 in
    let uri = past NoRedirect (redirect_of k.0 p.redirect_uri) _ v other k.2 in
    record { number = n.0; client = k.0; uri = uri.0; found = n.1; there = k.1; own = uri.1; answered = uri.2 }

-- ---- the client and its redirection URI

named : (o : Option (List ℕ)) (clients : List Client) (n : ℕ) (k : Client) → option_and_then (λ id. client_place id clients) o ≡ Some n → slice_get clients n ≡ Some k → o ≡ Some k.id
named None clients n k h there = absurd (cc)
named (Some id) clients n k h there = ap Some (sym (has_id id clients n k h there))

pub is_below : (o : Option (List ℕ)) (clients : List Client) (n : ℕ) → option_and_then (λ id. client_place id clients) o ≡ Some n → n < length clients
is_below None clients n h = absurd (cc)
is_below (Some id) clients n h = below id clients n h

if_own : (t : Bool) (uri v : List ℕ) → cond t (Some uri) None ≡ Some v → (t ≡ true) × (uri ≡ v)
if_own true uri v h = (refl, cc)
if_own false uri v h = absurd (cc)

own_uri : (k : Client) (o : Option (List ℕ)) (uri : List ℕ) → redirect_of k o ≡ Some uri → (o ≡ Some uri) × (has_text uri k.redirects ≡ true)
own_uri k None uri h = absurd (cc)
own_uri k (Some v) uri h =
    let own = if_own (has_text v k.redirects) v uri h in
    (ap Some own.1, ap (λ t. has_text t k.redirects) (sym own.1) ∙ own.0)

pub is_registered : (c : Configuration) (p : Params) (b : Bool) (v : Verdict) (r : Reaches c p b v) → IsRegistered c p r.number r.uri
is_registered c p b v r =
    let own = own_uri r.client p.redirect_uri r.uri r.own in
    record { client = r.client; there = r.there; named = named p.client_id c.clients r.number r.client r.found r.there; asked = own.0; registered = own.1 }

pub has_uri : (c : Configuration) (p : Params) (b : Bool) (v : Verdict) (r : Reaches c p b v) → has_text r.uri r.client.redirects ≡ true
has_uri c p b v r = (own_uri r.client p.redirect_uri r.uri r.own).1

-- ---- a refusal and a wish

no_refusal : (x : Refusal) → IsNoPage (Refuse x)
no_refusal x y h = cc h

no_wish : (w : Wish) → IsNoPage (Grant w)
no_wish w y h = cc h

pub refused : (c : Configuration) (p : Params) (b : Bool) (x : Refusal) → judgement c p b ≡ Refuse x → Reaches c p b (Refuse x)
refused c p b x h = reaches c p b (Refuse x) (no_refusal x) h

pub granted : (c : Configuration) (p : Params) (b : Bool) (w : Wish) → judgement c p b ≡ Grant w → Reaches c p b (Grant w)
granted c p b w h = reaches c p b (Grant w) (no_wish w) h

refusal_at : (n : ℕ) (uri : List ℕ) (p : Params) (r : Result (Unit {0}) AuthError) (x : Refusal) → answer n uri p (asking_of p) r ≡ Refuse x → (e : AuthError) × (refusal_of uri p (asking_of p) e ≡ x)
refusal_at n uri p (Ok u) x h = absurd (cc)
refusal_at n uri p (Err e) x h = (e, cc)

pub refusal_is : (c : Configuration) (p : Params) (b : Bool) (x : Refusal) (r : Reaches c p b (Refuse x)) → (e : AuthError) × (refusal_of r.uri p (asking_of p) e ≡ x)
refusal_is c p b x r = refusal_at r.number r.uri p (first_refusal (errors r.client p (asking_of p) b)) x r.answered

wish_at : (n : ℕ) (uri : List ℕ) (p : Params) (r : Result (Unit {0}) AuthError) (w : Wish) → answer n uri p (asking_of p) r ≡ Grant w → (r ≡ Ok tt) × (wish_of n uri p (asking_of p) ≡ w)
wish_at n uri p (Ok u) w h = (refl, cc)
wish_at n uri p (Err e) w h = absurd (cc)

pub wish_is : (c : Configuration) (p : Params) (b : Bool) (w : Wish) (r : Reaches c p b (Grant w)) → (first_refusal (errors r.client p (asking_of p) b) ≡ Ok tt) × (wish_of r.number r.uri p (asking_of p) ≡ w)
wish_is c p b w r = wish_at r.number r.uri p (first_refusal (errors r.client p (asking_of p) b)) w r.answered

-- ---- the other way round: the answer, where the request names a registered URI

number_is : (o : Option (List ℕ)) (id : List ℕ) (clients : List Client) (n : ℕ) → o ≡ Some id → client_place id clients ≡ Some n → option_and_then (λ i. client_place i clients) o ≡ Some n
number_is o id clients n is h = ap (option_and_then (λ i. client_place i clients)) is ∙ h

uri_is : (k : Client) (o : Option (List ℕ)) (uri : List ℕ) → o ≡ Some uri → has_text uri k.redirects ≡ true → redirect_of k o ≡ Some uri
uri_is k o uri is h = rw (is, h) refl

pub answers : (c : Configuration) (p : Params) (b : Bool) (n : ℕ) (uri : List ℕ) → ClientsAreApart c → (g : IsRegistered c p n uri) → judgement c p b ≡ answer n uri p (asking_of p) (first_refusal (errors g.client p (asking_of p) b))
unfolding judgement
answers c p b n uri apart g =
    let found : client_number c p ≡ Some n = number_is p.client_id g.client.id c.clients n g.named (only_place g.client.id c.clients n g.client apart g.there refl) in
    rw (found, g.there, uri_is g.client p.redirect_uri uri g.asked g.registered) refl

pub no_page : (n : ℕ) (uri : List ℕ) (p : Params) (r : Result (Unit {0}) AuthError) (y : PageNo) → answer n uri p (asking_of p) r ≡ Page y → ⊥
no_page n uri p (Ok u) y h = cc h
no_page n uri p (Err e) y h = cc h

pub not_shown : (c : Configuration) (p : Params) (b : Bool) (y : PageNo) (n : ℕ) (uri : List ℕ) → ClientsAreApart c → judgement c p b ≡ Page y → IsRegistered c p n uri → ⊥
not_shown c p b y n uri apart h g = no_page n uri p _ y (sym (answers c p b n uri apart g) ∙ h)
