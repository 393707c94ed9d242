-- What a need says of the request and of its user, and the other way round.
use Rattle.std.proofs.Common.{◌≡◌, ◌≢◌, ◌≤◌, ◌-◌, ◌⊎◌, inl, inr, ℕ, Bool, true, false, not, ◌&&◌, ◌||◌, List, Option, Some, None, slice_get, refl, if◌then◌else◌, arith}
use Rattle.sso_base.proofs.Decided.{above_false, not_above, not_not}
use Rattle.client_registry.specs.Configuration.{Configuration, subject_at}
use Rattle.oidc_words.specs.Words.{is_one_of}
use Rattle.oidc_words.specs.Scopes.{covers}
use Rattle.auth_request.specs.declared.wish.Wish.{Wish}
use Rattle.oidc_words.specs.declared.errors.AuthError.{AuthError}
use Rattle.oidc_words.specs.declared.errors.AuthError.TheVariants.{LoginRequired, ConsentRequired, AccessDenied}
use Rattle.user_interaction.specs.declared.need.Need.{Need}
use Rattle.user_interaction.specs.declared.need.Need.TheVariants as need
use Rattle.user_interaction.specs.declared.standing.Standing.{Standing}
use Rattle.user_interaction.specs.Need.{needed, needed_scopes, asks_consent, is_older, is_late, is_none_of, is_foreign, is_unagreed}
use Rattle.user_interaction.specs.Answerable.{IsRecent, HasSignedIn, IsAskedFor, HasAgreed, IsAnswerable, IsOther, HasCause}

-- ---- the cases of the need, over truth values: no page, late, another user, unagreed, in turn, login wished

abbrev cascade : Bool → Bool → Bool → Bool → Bool → Bool → Need
cascade none late foreign unagreed turn login =
    if none && (late || foreign) then need.Error LoginRequired
    else if none && unagreed then need.Error ConsentRequired
    else if not turn && (login || late || foreign) then need.Login
    else if foreign then need.Error AccessDenied
    else if unagreed then need.Consent
    else need.Answer

record Answers (late foreign unagreed turn login : Bool) : Type 0 where
  not_foreign : foreign ≡ false
  agreed : unagreed ≡ false
  signed_in : (turn ≡ true) ⊎ ((login ≡ false) × (late ≡ false))

answers : (none late foreign unagreed turn login : Bool) → cascade none late foreign unagreed turn login ≡ need.Answer → Answers late foreign unagreed turn login
answers true true f u t g h = cc
answers true false true u t g h = cc
answers true false false true t g h = cc
answers true false false false true g h = record { not_foreign = refl; agreed = refl; signed_in = inl refl }
answers true false false false false true h = cc
answers true false false false false false h = record { not_foreign = refl; agreed = refl; signed_in = inr (refl, refl) }
answers false l true u true g h = cc
answers false l true u false true h = cc
answers false true true u false false h = cc
answers false false true u false false h = cc
answers false l false true true g h = cc
answers false l false true false true h = cc
answers false true false true false false h = cc
answers false false false true false false h = cc
answers false l false false true g h = record { not_foreign = refl; agreed = refl; signed_in = inl refl }
answers false l false false false true h = cc
answers false true false false false false h = cc
answers false false false false false false h = record { not_foreign = refl; agreed = refl; signed_in = inr (refl, refl) }

in_turn_answered : (none g : Bool) → cascade none false false false true g ≡ need.Answer
in_turn_answered true g = refl
in_turn_answered false g = refl

recent_answered : (none t : Bool) → cascade none false false false t false ≡ need.Answer
recent_answered true true = refl
recent_answered true false = refl
recent_answered false true = refl
recent_answered false false = refl

pages : (late foreign unagreed turn : Bool) → (cascade true late foreign unagreed turn false ≢ need.Login) × (cascade true late foreign unagreed turn false ≢ need.Consent)
pages true f u t = (λ h. cc, λ h. cc)
pages false true u t = (λ h. cc, λ h. cc)
pages false false true t = (λ h. cc, λ h. cc)
pages false false false true = (λ h. cc, λ h. cc)
pages false false false false = (λ h. cc, λ h. cc)

no_consent : (none late foreign turn login : Bool) → cascade none late foreign false turn login ≢ need.Consent
no_consent true true f t g h = cc
no_consent true false true t g h = cc
no_consent true false false true g h = cc
no_consent true false false false true h = cc
no_consent true false false false false h = cc
no_consent false l true true g h = cc
no_consent false l true false true h = cc
no_consent false true true false false h = cc
no_consent false false true false false h = cc
no_consent false l false true g h = cc
no_consent false l false false true h = cc
no_consent false true false false false h = cc
no_consent false false false false false h = cc

abbrev Refused : Bool → Bool → Bool → Bool → Bool → AuthError → Type 0
Refused none late foreign unagreed turn code =
    ((code ≡ LoginRequired) × (none ≡ true) × ((late ≡ true) ⊎ (foreign ≡ true)))
    ⊎ ((code ≡ ConsentRequired) × (none ≡ true) × (unagreed ≡ true))
    ⊎ ((code ≡ AccessDenied) × (turn ≡ true) × (foreign ≡ true))

refused : (none late foreign unagreed turn login : Bool) (code : AuthError) → cascade none late foreign unagreed turn login ≡ need.Error code → Refused none late foreign unagreed turn code
refused true true f u t g code h = inl (cc, refl, inl refl)
refused true false true u t g code h = inl (cc, refl, inr refl)
refused true false false true t g code h = inr (inl (cc, refl, refl))
refused true false false false true g code h = cc
refused true false false false false true code h = cc
refused true false false false false false code h = cc
refused false l true u true g code h = inr (inr (cc, refl, refl))
refused false l true u false true code h = cc
refused false true true u false false code h = cc
refused false false true u false false code h = cc
refused false l false true true g code h = cc
refused false l false true false true code h = cc
refused false true false true false false code h = cc
refused false false false true false false code h = cc
refused false l false false true g code h = cc
refused false l false false false true code h = cc
refused false true false false false false code h = cc
refused false false false false false false code h = cc

-- ---- the login

not_true : (b : Bool) → not b ≡ true → b ≡ false
not_true true h = cc
not_true false h = refl

recent : (most : Option ℕ) (auth_time at : ℕ) → is_older most (at - auth_time) ≡ false → IsRecent most auth_time at
recent None auth_time at h = tt
recent (Some m) auth_time at h = let less : at - auth_time ≤ m = above_false (at - auth_time) m h in omega (arith, less)

not_older : (most : Option ℕ) (auth_time at : ℕ) → IsRecent most auth_time at → is_older most (at - auth_time) ≡ false
not_older None auth_time at h = refl
not_older (Some m) auth_time at h = not_above (at - auth_time) m (omega (arith, h))

late_in_turn : (turn older : Bool) → turn ≡ true → (not turn && older) ≡ false
late_in_turn true older h = refl
late_in_turn false older h = cc

not_late_out : (turn older : Bool) → older ≡ false → (not turn && older) ≡ false
not_late_out true older h = refl
not_late_out false older h = h

signed : (wish : Wish) (s : Standing) (at : ℕ) (turn : Bool) → s.in_turn ≡ turn → (turn ≡ true) ⊎ ((wish.login ≡ false) × ((not turn && is_older wish.max_age (at - s.auth_time)) ≡ false)) → HasSignedIn wish s at
signed wish s at true is h = inl is
signed wish s at false is (inl h) = cc
signed wish s at false is (inr h) = inr (h.0, recent wish.max_age s.auth_time at h.1)

-- ---- the user

asked_for : (sub : List ℕ) (subs : Option (List (List ℕ))) → is_none_of sub subs ≡ false → IsAskedFor sub subs
asked_for sub None h = tt
asked_for sub (Some subs) h = not_not (is_one_of subs sub) h

not_foreign : (sub : List ℕ) (subs : Option (List (List ℕ))) → IsAskedFor sub subs → is_none_of sub subs ≡ false
not_foreign sub None h = refl
not_foreign sub (Some subs) h = rw h refl

other : (sub : List ℕ) (subs : Option (List (List ℕ))) → is_none_of sub subs ≡ true → IsOther sub subs
other sub None h = cc
other sub (Some subs) h = not_true (is_one_of subs sub) h

-- ---- the consent

agreed : (c : Configuration) (wish : Wish) (s : Standing) (asks given again covered ever : Bool)
    → asks_consent (slice_get c.clients wish.client) ≡ asks → s.agreed ≡ given → wish.consent ≡ again
    → covers s.granted (needed_scopes wish) ≡ covered → s.granted.openid ≡ ever
    → (asks && not given && (again || not covered || not ever)) ≡ false → HasAgreed c wish s
agreed c wish s false given again covered ever a g w v e h = inl a
agreed c wish s true true again covered ever a g w v e h = inr (inl g)
agreed c wish s true false true covered ever a g w v e h = cc
agreed c wish s true false false false ever a g w v e h = cc
agreed c wish s true false false true false a g w v e h = cc
agreed c wish s true false false true true a g w v e h = inr (inr (record { not_again = w; covered = v; ever = e }))

not_asked : (asks given again covered ever : Bool) → asks ≡ false → (asks && not given && (again || not covered || not ever)) ≡ false
not_asked true given again covered ever h = cc
not_asked false given again covered ever h = refl

given_now : (asks given again covered ever : Bool) → given ≡ true → (asks && not given && (again || not covered || not ever)) ≡ false
given_now true true again covered ever h = refl
given_now false true again covered ever h = refl
given_now asks false again covered ever h = cc

given_before : (asks given again covered ever : Bool) → again ≡ false → covered ≡ true → ever ≡ true → (asks && not given && (again || not covered || not ever)) ≡ false
given_before true true false true true a v e = refl
given_before true false false true true a v e = refl
given_before false given false true true a v e = refl
given_before asks given true covered ever a v e = cc
given_before asks given false false ever a v e = cc
given_before asks given false true false a v e = cc

not_unagreed : (c : Configuration) (wish : Wish) (s : Standing) → HasAgreed c wish s → is_unagreed c wish (Some s) ≡ false
not_unagreed c wish s (inl h) = not_asked (asks_consent (slice_get c.clients wish.client)) s.agreed wish.consent (covers s.granted (needed_scopes wish)) s.granted.openid h
not_unagreed c wish s (inr (inl h)) = given_now (asks_consent (slice_get c.clients wish.client)) s.agreed wish.consent (covers s.granted (needed_scopes wish)) s.granted.openid h
not_unagreed c wish s (inr (inr h)) = given_before (asks_consent (slice_get c.clients wish.client)) s.agreed wish.consent (covers s.granted (needed_scopes wish)) s.granted.openid h.not_again h.covered h.ever

-- ---- the laws

abbrev unsigned : Bool → Need
unsigned none = if none && true then need.Error LoginRequired else if none && false then need.Error ConsentRequired else need.Login

nobody : (none : Bool) → unsigned none ≢ need.Answer
nobody true h = cc
nobody false h = cc

-- nobody is answered who has no session
pub nobody_is_answered : (c : Configuration) (wish : Wish) (at : ℕ) → needed c wish None at ≢ need.Answer
unfolding needed
nobody_is_answered c wish at h = nobody wish.none h

pub answered_is_answerable : (c : Configuration) (wish : Wish) (s : Standing) (at : ℕ) → needed c wish (Some s) at ≡ need.Answer → IsAnswerable c wish s at
unfolding needed
answered_is_answerable c wish s at h =
    let facts : Answers (is_late wish (Some s) at) (is_foreign c wish (Some s)) (is_unagreed c wish (Some s)) s.in_turn wish.login =
    answers wish.none (is_late wish (Some s) at) (is_foreign c wish (Some s)) (is_unagreed c wish (Some s)) s.in_turn wish.login h in
    record {
      signed_in = signed wish s at s.in_turn refl facts.signed_in;
      user = asked_for (subject_at c wish.client s.user) wish.subs facts.not_foreign;
      agreed = agreed c wish s (asks_consent (slice_get c.clients wish.client)) s.agreed wish.consent (covers s.granted (needed_scopes wish)) s.granted.openid refl refl refl refl refl facts.agreed;
    }

by_login : (c : Configuration) (wish : Wish) (s : Standing) (at : ℕ) → is_foreign c wish (Some s) ≡ false → is_unagreed c wish (Some s) ≡ false → HasSignedIn wish s at → needed c wish (Some s) at ≡ need.Answer
unfolding needed
by_login c wish s at f u (inl turn) =
    rw (late_in_turn s.in_turn (is_older wish.max_age (at - s.auth_time)) turn) (rw f (rw u (rw turn (in_turn_answered wish.none wish.login))))
by_login c wish s at f u (inr out) =
    rw (not_late_out s.in_turn (is_older wish.max_age (at - s.auth_time)) (not_older wish.max_age s.auth_time at out.1)) (rw f (rw u (rw out.0 (recent_answered wish.none s.in_turn))))

pub answerable_is_answered : (c : Configuration) (wish : Wish) (s : Standing) (at : ℕ) → IsAnswerable c wish s at → needed c wish (Some s) at ≡ need.Answer
answerable_is_answered c wish s at h =
    by_login c wish s at (not_foreign (subject_at c wish.client s.user) wish.subs h.user) (not_unagreed c wish s h.agreed) h.signed_in

-- ---- what is asked of nobody who needn't be asked, and why a request is refused

unsigned_pages : (unsigned true ≢ need.Login) × (unsigned true ≢ need.Consent)
unsigned_pages = (λ h. cc, λ h. cc)

silent : (c : Configuration) (wish : Wish) (standing : Option Standing) (at : ℕ) → wish.none ≡ true → wish.login ≡ false → (needed c wish standing at ≢ need.Login) × (needed c wish standing at ≢ need.Consent)
unfolding needed needed_scopes
silent c wish None at n g = rw n unsigned_pages
silent c wish (Some s) at n g = rw n (rw g (pages (is_late wish (Some s) at) (is_foreign c wish (Some s)) (is_unagreed c wish (Some s)) s.in_turn))

pub shows_no_login : (c : Configuration) (wish : Wish) (standing : Option Standing) (at : ℕ) → wish.none ≡ true → wish.login ≡ false → needed c wish standing at ≢ need.Login
shows_no_login c wish standing at n g = (silent c wish standing at n g).0

pub shows_no_consent : (c : Configuration) (wish : Wish) (standing : Option Standing) (at : ℕ) → wish.none ≡ true → wish.login ≡ false → needed c wish standing at ≢ need.Consent
shows_no_consent c wish standing at n g = (silent c wish standing at n g).1

unsigned_asked : (none : Bool) → unsigned none ≢ need.Consent
unsigned_asked true h = cc
unsigned_asked false h = cc

pub consent_is_wanted : (c : Configuration) (wish : Wish) (standing : Option Standing) (at : ℕ) → asks_consent (slice_get c.clients wish.client) ≡ false → needed c wish standing at ≢ need.Consent
unfolding needed
consent_is_wanted c wish None at a h = unsigned_asked wish.none h
consent_is_wanted c wish (Some s) at a h =
    let not_wanted : is_unagreed c wish (Some s) ≡ false = not_unagreed c wish s (inl a) in
    no_consent wish.none (is_late wish (Some s) at) (is_foreign c wish (Some s)) s.in_turn wish.login (rw not_wanted at h)

unsigned_refused : (c : Configuration) (wish : Wish) (at : ℕ) (code : AuthError) (none : Bool) → wish.none ≡ none → unsigned none ≡ need.Error code → HasCause c wish None at code
unsigned_refused c wish at code true is h = inl (cc, is, inl refl)
unsigned_refused c wish at code false is h = cc

caused : (c : Configuration) (wish : Wish) (s : Standing) (at : ℕ) (code : AuthError)
    → Refused wish.none (is_late wish (Some s) at) (is_foreign c wish (Some s)) (is_unagreed c wish (Some s)) s.in_turn code
    → HasCause c wish (Some s) at code
caused c wish s at code (inl h) = inl (h.0, h.1, inr h.2)
caused c wish s at code (inr (inl h)) = inr (inl h)
caused c wish s at code (inr (inr h)) = inr (inr (h.0, (h.1, other (subject_at c wish.client s.user) wish.subs h.2)))

pub refusal_has_its_cause : (c : Configuration) (wish : Wish) (standing : Option Standing) (at : ℕ) (code : AuthError) → needed c wish standing at ≡ need.Error code → HasCause c wish standing at code
unfolding needed
refusal_has_its_cause c wish None at code h = unsigned_refused c wish at code wish.none refl h
refusal_has_its_cause c wish (Some s) at code h =
    caused c wish s at code (refused wish.none (is_late wish (Some s) at) (is_foreign c wish (Some s)) (is_unagreed c wish (Some s)) s.in_turn wish.login code h)
