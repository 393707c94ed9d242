-- A token request is refused for the first reason that fits, and each refusal has its cause.
use Rattle.std.proofs.Common.{◌≡◌, ◌⊎◌, inl, inr, ⊎_elim, ℕ, List, [], ◌∷◌, ◌++◌, drop, Bool, true, false, not, ◌&&◌, codes, Option, Some, None, is_some, is_none, unwrap_or, Result, Ok, Err, IsOk, refl, sym, ap, ◌∙◌, subst}
use Rattle.sso_base.specs.Words.{Text}
use Rattle.sso_base.specs.Refusals.{first_refusal, and_then}
use Rattle.sso_base.specs.Texts.{is_other}
use Rattle.sso_base.proofs.Decided.{same}
use Rattle.client_registry.specs.Configuration.{Configuration}
use Rattle.request_params.specs.Form.{Pair, form_pairs}
use Rattle.request_params.specs.Reading.{value_of, first_repeated, StandOnce}
use Rattle.request_params.proofs.Values.{has_value}
use Rattle.request_params.proofs.Repeated.{none_repeated, some_repeated}
use Rattle.token_endpoint.specs.declared.granting.Grant.{Grant}
use Rattle.token_endpoint.specs.declared.no.GrantNo.{GrantNo}
use Rattle.token_endpoint.specs.declared.no.GrantNo.TheVariants.{BadForm, Twice, TwoAuths, NoAuth, WrongClient, OtherGrant, Missing}
use Rattle.token_endpoint.specs.Basic.{basic_header}
use Rattle.token_endpoint.specs.Authentication.{is_there, client_shown, client_refusals, client_read}
use Rattle.token_endpoint.specs.Request.{code_refusals, grant_in, code_read, grant_refusals, grant_read}
use Rattle.token_endpoint.specs.Granted.{HasNo, CauseIn, Cause}
use Rattle.token_endpoint.proofs.Lookups.{none_of, some_of, nowhere_of}
use Rattle.token_endpoint.proofs.Joined.{both_true}
use Rattle.token_endpoint.proofs.Authenticating.{IdsDiffer, no_value, none_value, passes}

-- ---- the first reason

in_turn : {A B E : Type 0} (cs ds : List (Bool × E)) (a : A) (f : A → B) → and_then (and_then (first_refusal cs) (λ _. Ok a)) (λ x. and_then (first_refusal ds) (λ _. Ok (f x))) ≡ and_then (first_refusal (cs ++ ds)) (λ _. Ok (f a))
in_turn [] ds a f = refl
in_turn ((true, e) ∷ cs) ds a f = refl
in_turn ((false, e) ∷ cs) ds a f = in_turn cs ds a f

-- the number of the client that is shown, or 0 where none is
abbrev number_in : Configuration → Option (List ℕ) → List Pair → ℕ
number_in c auth ps = unwrap_or (client_shown c (basic_header auth) ps) 0

abbrev granted_in : Configuration → Option (List ℕ) → List Pair → Grant
granted_in c auth ps = grant_in ps (number_in c auth ps)

read_in_turn : (c : Configuration) (auth : Option (List ℕ)) (form : List ℕ) → grant_read c auth (Some form) ≡ and_then (first_refusal (grant_refusals c auth (form_pairs form))) (λ _. Ok (granted_in c auth (form_pairs form)))
unfolding grant_read client_read code_read
read_in_turn c auth form =
    let ps : List Pair = form_pairs form in
    in_turn (client_refusals c (basic_header auth) ps) (code_refusals ps) (number_in c auth ps) (grant_in ps)

pub no_body : (c : Configuration) (auth : Option (List ℕ)) → grant_read c auth None ≡ Err BadForm
unfolding grant_read
no_body c auth = refl

pub refused : (c : Configuration) (auth : Option (List ℕ)) (form : List ℕ) (e : GrantNo) → first_refusal (grant_refusals c auth (form_pairs form)) ≡ Err e → grant_read c auth (Some form) ≡ Err e
refused c auth form e h = read_in_turn c auth form ∙ ap (λ r. and_then r (λ _. Ok (granted_in c auth (form_pairs form)))) h

pub accepted : (c : Configuration) (auth : Option (List ℕ)) (form : List ℕ) → first_refusal (grant_refusals c auth (form_pairs form)) ≡ Ok tt → IsOk (grant_read c auth (Some form))
accepted c auth form h = subst (λ (r : Result Grant GrantNo). IsOk r) (sym (read_in_turn c auth form ∙ ap (λ r. and_then r (λ _. Ok (granted_in c auth (form_pairs form)))) h)) refl

-- ---- the causes

step : {E : Type 0} (b : Bool) (x : E) (cs : List (Bool × E)) (e : E) → first_refusal ((b, x) ∷ cs) ≡ Err e → ((b ≡ true) × (x ≡ e)) ⊎ ((b ≡ false) × (first_refusal cs ≡ Err e))
step true x cs e h = inl (refl, cc)
step false x cs e h = inr (refl, h)

not_both : (a b : Bool) → not (a && b) ≡ true → (a ≡ false) ⊎ (b ≡ false)
not_both false b h = inl refl
not_both true false h = inr refl
not_both true true h = absurd (cc)

some_there : (ps : List Pair) (name : Text) → is_there name ps ≡ true → HasNo ps name → ⊥
some_there ps name h none = absurd (cc (ap is_some (none_value ps name none), h))

none_there : (ps : List Pair) (name : Text) → is_there name ps ≡ false → HasNo ps name
none_there ps name h = no_value ps name (none_of (value_of name ps) h)

given : (ps : List Pair) (name : Text) → is_none (value_of name ps) ≡ false → HasNo ps name → ⊥
given ps name h none = absurd (cc (ap is_none (none_value ps name none), h))

absent : (ps : List Pair) (name : Text) → is_none (value_of name ps) ≡ true → HasNo ps name
absent ps name h = no_value ps name (nowhere_of (value_of name ps) h)

-- for a refusal d, which is the one that is answered
module _ (c : Configuration) (auth : Option (List ℕ)) (ps : List Pair) (e : GrantNo) where
  pub because : (d : GrantNo) → d ≡ e → CauseIn c auth ps d → CauseIn c auth ps e
  because d is cause = subst (CauseIn c auth ps) is cause

  repeated : is_some (first_repeated ps) ≡ true → Twice (unwrap_or (first_repeated ps) []) ≡ e → CauseIn c auth ps e
  repeated h is =
      let name = some_of (first_repeated ps) h in
      because (Twice name.0) (ap (λ o. Twice (unwrap_or o [])) (sym name.1) ∙ is) (some_repeated [] ps name.0 tt name.1)

  two_ways : (is_some (basic_header auth) && is_there (codes "client_secret") ps) ≡ true → CauseIn c auth ps TwoAuths
  two_ways h =
      let both = both_true (is_some (basic_header auth)) (is_there (codes "client_secret") ps) h in
      (some_of (basic_header auth) both.0, some_there ps (codes "client_secret") both.1)

  no_way : (is_none (basic_header auth) && not (is_there (codes "client_id") ps && is_there (codes "client_secret") ps)) ≡ true → CauseIn c auth ps NoAuth
  no_way h =
      let both = both_true (is_none (basic_header auth)) (not (is_there (codes "client_id") ps && is_there (codes "client_secret") ps)) h in (
        nowhere_of (basic_header auth) both.0,
        ⊎_elim (λ none. inl (none_there ps (codes "client_id") none)) (λ none. inr (none_there ps (codes "client_secret") none))
            (not_both (is_there (codes "client_id") ps) (is_there (codes "client_secret") ps) both.1),
      )

  no_client : StandOnce ps → IdsDiffer c → is_none (client_shown c (basic_header auth) ps) ≡ true → CauseIn c auth ps WrongClient
  no_client once apart h = λ n a. absurd (cc (ap is_none (passes c auth ps n once apart a).shown, h))

  pub client_caused : IdsDiffer c → first_refusal (client_refusals c (basic_header auth) ps) ≡ Err e → CauseIn c auth ps e
  client_caused apart h =
      let left : ℕ → List (Bool × GrantNo) = λ n. drop n (client_refusals c (basic_header auth) ps) in
      ⊎_elim (λ at. repeated at.0 at.1) (λ once.
      ⊎_elim (λ at. because TwoAuths at.1 (two_ways at.0)) (λ one.
      ⊎_elim (λ at. because NoAuth at.1 (no_way at.0)) (λ some.
      ⊎_elim (λ at. because WrongClient at.1 (no_client (none_repeated [] ps tt (none_of (first_repeated ps) once.0)) apart at.0)) (λ none. absurd (cc none.1))
      (step (is_none (client_shown c (basic_header auth) ps)) WrongClient [] e some.1))
      (step (is_none (basic_header auth) && not (is_there (codes "client_id") ps && is_there (codes "client_secret") ps)) NoAuth (left 3) e one.1))
      (step (is_some (basic_header auth) && is_there (codes "client_secret") ps) TwoAuths (left 2) e once.1))
      (step (is_some (first_repeated ps)) (Twice (unwrap_or (first_repeated ps) [])) (left 1) e h)

  other_at : (o : Option Text) → value_of (codes "grant_type") ps ≡ o → is_other (codes "authorization_code") o ≡ true → CauseIn c auth ps OtherGrant
  other_at None is h = absurd (cc)
  other_at (Some kind) is h =
      (kind, has_value ps (codes "grant_type") kind is, λ right. absurd (cc (ap not (same kind (codes "authorization_code") right), h)))

  code_caused : first_refusal (code_refusals ps) ≡ Err e → CauseIn c auth ps e
  code_caused h =
      let kind : Text = codes "grant_type" in
      let code : Text = codes "code" in
      let uri : Text = codes "redirect_uri" in
      let left : ℕ → List (Bool × GrantNo) = λ n. drop n (code_refusals ps) in
      ⊎_elim (λ at. because OtherGrant at.1 (other_at (value_of kind ps) refl at.0)) (λ right.
      ⊎_elim (λ at. because (Missing kind) at.1 (absent ps kind at.0, inl refl)) (λ has_kind.
      ⊎_elim (λ at. because (Missing code) at.1 (absent ps code at.0, inr (inl (refl, given ps kind has_kind.0)))) (λ has_code.
      ⊎_elim (λ at. because (Missing uri) at.1 (absent ps uri at.0, inr (inr (refl, given ps kind has_kind.0, given ps code has_code.0)))) (λ none. absurd (cc none.1))
      (step (is_none (value_of uri ps)) (Missing uri) [] e has_code.1))
      (step (is_none (value_of code ps)) (Missing code) (left 3) e has_kind.1))
      (step (is_none (value_of kind ps)) (Missing kind) (left 2) e right.1))
      (step (is_other (codes "authorization_code") (value_of kind ps)) OtherGrant (left 1) e h)

first_or_then : {E A B : Type 0} (r : Result A E) (f : A → Result B E) (e : E) → and_then r f ≡ Err e → (r ≡ Err e) ⊎ ((a : A) × (f a ≡ Err e))
first_or_then (Ok a) f e h = inr (a, h)
first_or_then (Err d) f e h = inl (ap Err (cc))

passed_on : {E A B : Type 0} (r : Result A E) (b : B) (e : E) → and_then r (λ _. Ok b) ≡ Err e → r ≡ Err e
passed_on (Ok a) b e h = absurd (cc)
passed_on (Err d) b e h = ap Err (cc)

client_refused : (c : Configuration) (auth : Option (List ℕ)) (ps : List Pair) (e : GrantNo) → client_read c auth ps ≡ Err e → first_refusal (client_refusals c (basic_header auth) ps) ≡ Err e
unfolding client_read
client_refused c auth ps e h = passed_on (first_refusal (client_refusals c (basic_header auth) ps)) (unwrap_or (client_shown c (basic_header auth) ps) 0) e h

code_refused : (ps : List Pair) (n : ℕ) (e : GrantNo) → code_read ps n ≡ Err e → first_refusal (code_refusals ps) ≡ Err e
unfolding code_read
code_refused ps n e h = passed_on (first_refusal (code_refusals ps)) (grant_in ps n) e h

pub caused : (c : Configuration) (auth body : Option (List ℕ)) (e : GrantNo) → IdsDiffer c → grant_read c auth body ≡ Err e → Cause c auth body e
unfolding grant_read
caused c auth None e apart h = cc
caused c auth (Some form) e apart h =
    let ps : List Pair = form_pairs form in
    ⊎_elim (λ r. client_caused c auth ps e apart (client_refused c auth ps e r)) (λ at. code_caused c auth ps e (code_refused ps at.0 e at.1))
    (first_or_then (client_read c auth ps) (code_read ps) e h)
