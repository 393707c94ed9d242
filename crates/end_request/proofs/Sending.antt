-- Where a browser is sent after a request.
use Rattle.std.proofs.Common.{◌≡◌, ℕ, suc, ◌+◌, Bool, true, false, cond, List, [], ◌∷◌, slice_get, codes, Option, Some, None, unwrap_or, Result, Ok, Err, inl, inr, refl, ap, sym, ◌∙◌, arith}
use Rattle.std.specs.Str.{bytes_eq}
use Rattle.std.proofs.lemmas.Bool.{and_parts}
use Rattle.sso_base.specs.Words.{Text}
use Rattle.sso_base.specs.Texts.{has_text}
use Rattle.sso_base.specs.Refusals.{and_then}
use Rattle.sso_base.proofs.RowLaws.{bool_cases, bytes_same}
use Rattle.client_registry.specs.Configuration.{Configuration}
use Rattle.client_registry.specs.declared.records.Client.{Client}
use Rattle.client_keys.specs.Opening.{opening}
use Rattle.client_keys.proofs.Opened.{opening_is_own}
use Rattle.request_params.specs.Reading.{value_of, first_repeated}
use Rattle.id_token.specs.declared.claims.IdClaims.{IdClaims}
use Rattle.id_token.specs.declared.no.IdNo.{IdNo}
use Rattle.id_token.proofs.Tokens.{id_read-token}
use Rattle.end_request.specs.declared.wish.EndWish.{EndWish}
use Rattle.end_request.specs.declared.wish.EndNo.{EndNo}
use Rattle.end_request.specs.declared.wish.EndNo.TheVariants as no
use Rattle.end_request.specs.Returning.{ReturnLists, has_return}
use Rattle.end_request.specs.Hints.{id_read_for, is_for, is_hint_for, may_be, fits, fitting_from, IsHint}
use Rattle.end_request.specs.Ending.{end_pairs, named_client, fits_any, hinted_client, is_allowed, allowed_return, wish_by, unless_twice, end_read, with_state, back_of, location, IsRegisteredReturn}

-- ---- options and results

some_none : {X : Type 0} (x : X) → ◌≡◌ {A = Option X} None (Some x) → ⊥
some_none x h = absurd (cc)

some_same : {X : Type 0} (x y : X) → ◌≡◌ {A = Option X} (Some x) (Some y) → x ≡ y
some_same x y h = ap (λ o. unwrap_or o x) h

abbrev ok_or_else : {X E : Type 0} → X → Result X E → X
ok_or_else d (Ok x) = x
ok_or_else d (Err e) = d

ok_same : {X E : Type 0} (x y : X) → ◌≡◌ {A = Result X E} (Ok x) (Ok y) → x ≡ y
ok_same {X} {E} x y h = ap (λ (o : Result X E). ok_or_else x o) h

err_ok : {X E : Type 0} (x : X) (e : E) → ◌≡◌ {A = Result X E} (Err e) (Ok x) → ⊥
err_ok x e h = absurd (cc)

false_true : false ≡ true → ⊥
false_true h = absurd (cc)

then_ok : {X Y E : Type 0} (r : Result X E) (f : X → Result Y E) (y : Y) → and_then r f ≡ Ok y → (x : X) × (r ≡ Ok x) × (f x ≡ Ok y)
then_ok (Ok x) f y h = (x, refl, h)
then_ok (Err e) f y h = absurd (err_ok y e h)

-- ---- what is read

not_twice : (o : Option Text) (w : Result EndWish EndNo) (wish : EndWish) → unless_twice o w ≡ Ok wish → w ≡ Ok wish
not_twice None w wish h = h
not_twice (Some name) w wish h = absurd (err_ok wish (no.Twice name) h)

has_back : (b s : Option Text) (to : Text) → back_of b s ≡ Some to → (uri : Text) × (b ≡ Some uri) × (to ≡ with_state uri s)
has_back None s to h = absurd (some_none to h)
has_back (Some uri) s to h = (uri, refl, sym (some_same (with_state uri s) to h))

is_given : (b : Bool) (given back : Option Text) → cond b (Ok given) (Err no.Return) ≡ Ok back → (b ≡ true) × (given ≡ back)
is_given true given back h = (refl, ok_same given back h)
is_given false given back h = absurd (err_ok back no.Return h)

allowed_has : (returns : ReturnLists) (hinted : Option ℕ) (uri : Text) → is_allowed returns hinted (Some uri) ≡ true → (n : ℕ) × (hinted ≡ Some n) × (has_return returns n uri ≡ true)
allowed_has returns None uri h = absurd (false_true h)
allowed_has returns (Some n) uri h = (n, refl, h)

fits_some : (o : Option ℕ) (n : ℕ) → fits_any o ≡ Ok (Some n) → o ≡ Some n
fits_some None n h = absurd (err_ok (Some n) no.Hint h)
fits_some (Some m) n h = ok_same (Some m) (Some n) h

hint_given : (c : Configuration) (named : Option ℕ) (given : Option Text) (n : ℕ) → hinted_client c named given ≡ Ok (Some n)
    → (hint : Text) × (given ≡ Some hint) × (fitting_from c.provider.issuer named hint 0 c.clients ≡ Some n)
hint_given c named None n h = absurd (some_none n (ok_same None (Some n) h))
hint_given c named (Some hint) n h = (hint, refl, fits_some (fitting_from c.provider.issuer named hint 0 c.clients) n h)

-- ---- the client that fits

here_is : (m : ℕ) → m ≡ m + 0
here_is m = omega arith

later_is : (n m i : ℕ) → n ≡ (m + 1) + i → n ≡ m + suc i
later_is n m i h = omega (arith, h)

from_none : (n i : ℕ) → n ≡ 0 + i → n ≡ i
from_none n i h = omega (arith, h)

fit_found : (issuer : Text) (named : Option ℕ) (hint : Text) (m : ℕ) (clients : List Client) (n : ℕ) → fitting_from issuer named hint m clients ≡ Some n
    → (i : ℕ) × (client : Client) × (n ≡ m + i) × (slice_get clients i ≡ Some client) × (is_hint_for issuer hint client ≡ true)
fit_found issuer named hint m [] n h = absurd (some_none n h)
fit_found issuer named hint m (k ∷ ks) n h =
    let F : Bool → Option ℕ = λ b. cond b (Some m) (fitting_from issuer named hint (m + 1) ks) in
    elim (bool_cases (fits issuer named hint m k)) [
      | inl e ↦ (0, k, sym (some_same m n (sym (ap F e) ∙ h)) ∙ here_is m, refl, (and_parts (may_be named m) (is_hint_for issuer hint k) e).1)
      | inr e ↦
          (let found = fit_found issuer named hint (m + 1) ks n (sym (ap F e) ∙ h) in
          (suc found.0, found.1, later_is n m found.0 found.2, found.3, found.4))
    ]

for_parts : (issuer id : Text) (o : Result IdClaims IdNo) → is_for issuer id o ≡ true → (x : IdClaims) × (o ≡ Ok x) × (x.iss ≡ issuer) × (has_text id x.aud ≡ true)
for_parts issuer id (Ok x) h =
    let both = and_parts (bytes_eq x.iss issuer) (has_text id x.aud) h in
    (x, refl, bytes_same x.iss issuer both.0, both.1)
for_parts issuer id (Err why) h = absurd (false_true h)

hint_is : (issuer hint : Text) (client : Client) → is_hint_for issuer hint client ≡ true → IsHint issuer client hint
hint_is issuer hint client h =
    let token = for_parts issuer client.id (id_read_for client hint) h in
    record {
      secret = opening client hint;
      own = opening_is_own client hint;
      claims = token.0;
      token = id_read-token (opening client hint) hint token.0 token.1;
      issued = token.2;
      audience = token.3;
    }

-- ---- a request

pub registered_return : (c : Configuration) (returns : ReturnLists) (form : List ℕ) (wish : EndWish) (to : Text) → end_read c returns form ≡ Ok wish → location wish ≡ Some to → IsRegisteredReturn c returns form to
unfolding end_read
registered_return c returns form wish to read there =
    let pairs = end_pairs form in
    let state : Option Text = value_of (codes "state") pairs in
    let once : wish_by c returns pairs ≡ Ok wish = not_twice (first_repeated pairs) (wish_by c returns pairs) wish read in
    let a = then_ok (named_client c (value_of (codes "client_id") pairs)) _ wish once in
    let b = then_ok (hinted_client c a.0 (value_of (codes "id_token_hint") pairs)) _ wish a.2 in
    let d = then_ok (allowed_return returns b.0 (value_of (codes "post_logout_redirect_uri") pairs)) _ wish b.2 in
    let same = ok_same _ wish d.2 in
    let back_same : wish.back ≡ d.0 = ap (λ (x : EndWish). x.back) (sym same) in
    let state_same : wish.state ≡ state = ap (λ (x : EndWish). x.state) (sym same) in
    let sent = has_back wish.back wish.state to there in
    let given = is_given (is_allowed returns b.0 (value_of (codes "post_logout_redirect_uri") pairs)) (value_of (codes "post_logout_redirect_uri") pairs) d.0 d.1 in
    let uri_is : value_of (codes "post_logout_redirect_uri") pairs ≡ Some sent.0 = given.1 ∙ sym back_same ∙ sent.1 in
    let ok = allowed_has returns b.0 sent.0 (ap (λ u. is_allowed returns b.0 u) (sym uri_is) ∙ given.0) in
    let hinted = hint_given c a.0 (value_of (codes "id_token_hint") pairs) ok.0 (b.1 ∙ ap (λ (x : Option ℕ). Ok x) ok.1) in
    let fit = fit_found c.provider.issuer a.0 hinted.0 0 c.clients ok.0 hinted.2 in
    record {
      hint = hinted.0;
      uri = sent.0;
      number = ok.0;
      client = fit.1;
      hint_is = hinted.1;
      uri_is = uri_is;
      client_is = ap (λ i. slice_get c.clients i) (from_none ok.0 fit.0 fit.2) ∙ fit.3;
      sealed = hint_is c.provider.issuer hinted.0 fit.1 fit.4;
      registered = ok.2;
      location_is = sent.2 ∙ ap (λ s. with_state sent.0 s) state_same;
    }
