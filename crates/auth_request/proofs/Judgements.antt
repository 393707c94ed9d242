-- What holds of every judgement.
use Rattle.std.proofs.Common.{◌≡◌, ◌⊎◌, inl, inr, ◌↔◌, ℕ, List, [], ◌∷◌, Bool, true, Option, Some, None, slice_get, Ok, refl, sym, ap, subst, ◌∙◌}
use Rattle.sso_base.specs.Refusals.{first_refusal, NoneHolds}
use Rattle.client_registry.specs.declared.records.Client.{Client}
use Rattle.client_registry.specs.Configuration.{Configuration}
use Rattle.request_params.specs.declared.params.Params.{Params}
use Rattle.auth_request.specs.declared.wish.Wish.{Wish}
use Rattle.oidc_words.specs.declared.errors.Refusal.{Refusal}
use Rattle.oidc_words.specs.declared.errors.AuthError.{AuthError}
use Rattle.auth_request.specs.declared.wish.PageNo.{PageNo}
use Rattle.auth_request.specs.declared.wish.PageNo.TheVariants.{Client as NoClient, Redirect as NoRedirect}
use Rattle.auth_request.specs.declared.wish.Verdict.{Verdict}
use Rattle.auth_request.specs.declared.wish.Verdict.TheVariants.{Page, Refuse, Grant}
use Rattle.auth_request.specs.Parameters.{asking_of}
use Rattle.auth_request.specs.Judgement.{client_number, redirect_of, errors, wish_of, answer, page_or, judgement}
use Rattle.auth_request.specs.Granted.{ClientsAreApart, IsRegistered, AnswersInFragment}
use Rattle.auth_request.proofs.Reaching.{refused, granted, refusal_is, wish_is, is_registered, answers, no_page}
use Rattle.auth_request.proofs.Fragments.{in_fragment}

pub refused_there : (c : Configuration) (p : Params) (b : Bool) (x : Refusal) → judgement c p b ≡ Refuse x → (n : ℕ) × IsRegistered c p n x.redirect
refused_there c p b x h =
    let r = refused c p b x h in
    let is = refusal_is c p b x r in
    (r.number, subst (λ (y : Refusal). IsRegistered c p r.number y.redirect) is.1 (is_registered c p b (Refuse x) r))

pub granted_there : (c : Configuration) (p : Params) (b : Bool) (w : Wish) → judgement c p b ≡ Grant w → IsRegistered c p w.client w.redirect
granted_there c p b w h =
    let r = granted c p b w h in
    subst (λ (v : Wish). IsRegistered c p v.client v.redirect) (wish_is c p b w r).1 (is_registered c p b (Grant w) r)

-- ---- pages

one_page : {A : Type 0} (why : PageNo) (o : Option A) (f : A → Verdict) (y : PageNo) (P : Type 0) → (y ≡ why → P) → ((a : A) → f a ≡ Page y → P) → page_or why o f ≡ Page y → P
one_page why None f y P here there h = here (cc)
one_page why (Some a) f y P here there h = there a h

pub two_pages : (c : Configuration) (p : Params) (b : Bool) (y : PageNo) → judgement c p b ≡ Page y → (y ≡ NoClient) ⊎ (y ≡ NoRedirect)
unfolding judgement
two_pages c p b y h =
    let P : Type 0 = (y ≡ NoClient) ⊎ (y ≡ NoRedirect) in
    one_page NoClient (client_number c p) _ y P (λ e. inl e) (λ n h1.
    one_page NoClient (slice_get c.clients n) _ y P (λ e. inl e) (λ k h2.
    one_page NoRedirect (redirect_of k p.redirect_uri) _ y P (λ e. inr e) (λ uri h3. absurd (no_page n uri p _ y h3)) h2) h1) h

-- ---- refusals

pub same_state : (c : Configuration) (p : Params) (b : Bool) (x : Refusal) → judgement c p b ≡ Refuse x → x.state ≡ p.state
same_state c p b x h = ap (λ (y : Refusal). y.state) (sym (refusal_is c p b x (refused c p b x h)).1)

pub fragment_of_type : (c : Configuration) (p : Params) (b : Bool) (x : Refusal) → judgement c p b ≡ Refuse x → (x.fragment ≡ true) ↔ AnswersInFragment p
unfolding asking_of
fragment_of_type c p b x h =
    subst (λ (y : Refusal). (y.fragment ≡ true) ↔ AnswersInFragment p) (refusal_is c p b x (refused c p b x h)).1 (in_fragment p)

-- ---- grants

all_false : (cs : List (Bool × AuthError)) → NoneHolds cs → first_refusal cs ≡ Ok tt
all_false [] h = refl
all_false (e ∷ cs) h = rw h.0 (all_false cs h.1)

pub granted_without_errors : (c : Configuration) (p : Params) (b : Bool) (n : ℕ) (k : Client) (uri : List ℕ) → ClientsAreApart c → IsRegistered c p n uri → slice_get c.clients n ≡ Some k → NoneHolds (errors k p (asking_of p) b) → judgement c p b ≡ Grant (wish_of n uri p (asking_of p))
granted_without_errors c p b n k uri apart g there none =
    let one : k ≡ g.client = some_is k g.client (sym there ∙ g.there) in
    let none : NoneHolds (errors g.client p (asking_of p) b) = subst (λ (j : Client). NoneHolds (errors j p (asking_of p) b)) one none in
    answers c p b n uri apart g ∙ ap (answer n uri p (asking_of p)) (all_false (errors g.client p (asking_of p) b) none)
  where
    some_is : (x y : Client) → Some x ≡ Some y → x ≡ y
    some_is x y h = cc
