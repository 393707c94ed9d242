-- The provider accepts the request of a party of its registry, unless the party requests that no page is shown.
use Rattle.std.proofs.Common.{◌≡◌, ◌≤◌, ◌<◌, ◌+◌, ◌*◌, ◌-◌, ◌^◌, ◌&&◌, ◌||◌, not, nat_le, ℕ, zero, suc, Bool, true, false, cond, List, [], ◌∷◌, ◌++◌, length, filter, decimal, Option, Some, None, is_some, is_none, option_map, unwrap_or, slice_get, refl, sym, ap, ◌∙◌, arith}
use Prim.Native.Nat.{◌/◌, ◌%◌}
use Rattle.std.specs.Char.{is_ascii_digit}
use Rattle.std.specs.Str.{bytes_eq}
use Rattle.std.proofs.lemmas.Bool.{leb-true, le-leb}
use Rattle.std.proofs.lemmas.Fmt.{decimal_by_steps, length-decimal-le, decimal_nonempty}
use Rattle.sso_base.specs.Words.{Word, Text}
use Rattle.sso_base.specs.Texts.{has_text}
use Rattle.sso_base.specs.Refusals.{NoneHolds}
use Rattle.sso_base.proofs.RowLaws.{bytes_same}
use Rattle.sso_base.proofs.Spelling.{both_true, length-b64u_32}
use Rattle.oidc_words.specs.Words.{has_other, words_of, is_filled, parameter_words, are_words}
use Rattle.oidc_words.specs.Scopes.{openid_word, scope_words, is_scope}
use Rattle.oidc_words.specs.Prompts.{none_word}
use Rattle.oidc_words.specs.Types.{types_text, types_of_number, type_number}
use Rattle.oidc_words.proofs.TypeTexts.{text_read}
use Rattle.client_registry.specs.declared.records.Client.{Client}
use Rattle.client_registry.specs.declared.records.Party.{Party}
use Rattle.client_registry.specs.Configuration.{Configuration}
use Rattle.client_registry.specs.Numbers.{party_row, party_client, no_client}
use Rattle.client_registry.specs.Registered.{is_age_or_none, IsRegistry}
use Rattle.request_params.specs.declared.params.Params.{Params}
use Rattle.auth_request.specs.declared.wish.Wish.{Wish}
use Rattle.auth_request.specs.declared.wish.Verdict.TheVariants.{Grant}
use Rattle.auth_request.specs.Parameters.{type_of, digits_from, age_of, asking_of}
use Rattle.auth_request.specs.ClaimsParameter.{claims_of}
use Rattle.auth_request.specs.Judgement.{may_ask, errors, wish_of, judgement}
use Rattle.auth_request.specs.Granted.{IsRegistered}
use Rattle.auth_request.proofs.Judgements.{granted_without_errors}
use Rattle.login_request.specs.Parties.{MayAsk}
use Rattle.login_request.specs.Request.{login_params, login_object}
use Rattle.login_request.proofs.PartyRows.{KeepRules, client_is_known, rows_keep_rules}
use Rattle.web_requests.specs.Asked.{whole_params}
use Rattle.web_requests.proofs.RegistryRows.{some_row}
use Rattle.honest_places.specs.OwnWish.{own_wish}

-- ---- the number of an age is read back

digit_is : (d : ℕ) → d < 10 → is_ascii_digit (48 + d) ≡ true
digit_is zero l = refl
digit_is (suc zero) l = refl
digit_is (suc (suc zero)) l = refl
digit_is (suc (suc (suc zero))) l = refl
digit_is (suc (suc (suc (suc zero)))) l = refl
digit_is (suc (suc (suc (suc (suc zero))))) l = refl
digit_is (suc (suc (suc (suc (suc (suc zero)))))) l = refl
digit_is (suc (suc (suc (suc (suc (suc (suc zero))))))) l = refl
digit_is (suc (suc (suc (suc (suc (suc (suc (suc zero)))))))) l = refl
digit_is (suc (suc (suc (suc (suc (suc (suc (suc (suc zero))))))))) l = refl
digit_is (suc (suc (suc (suc (suc (suc (suc (suc (suc (suc d)))))))))) l = absurd (omega (arith, l))

some_number : (m n : ℕ) → Some m ≡ Some n → m ≡ n
some_number m n h = cc

at_digit : (t : Bool) (m : ℕ) (ds : List ℕ) (b v : ℕ) (o : Option ℕ) → cond t (digits_from m ds) None ≡ Some v → (digits_from m ds ≡ Some v → digits_from m (ds ++ b ∷ []) ≡ o) → cond t (digits_from m (ds ++ b ∷ [])) None ≡ o
at_digit true m ds b v o h later = later h
at_digit false m ds b v o h later = absurd (cc)

digits_on : (n : ℕ) (ds : List ℕ) (b v : ℕ) → digits_from n ds ≡ Some v → is_ascii_digit b ≡ true → digits_from n (ds ++ b ∷ []) ≡ Some (v * 10 + (b - 48))
digits_on n [] b v h d =
    ap (λ t. cond t (Some (n * 10 + (b - 48))) None) d ∙ ap (λ m. Some (m * 10 + (b - 48))) (some_number n v h)
digits_on n (c ∷ ds) b v h d =
    at_digit (is_ascii_digit c) (n * 10 + (c - 48)) ds b v (Some (v * 10 + (b - 48))) h (λ g. digits_on (n * 10 + (c - 48)) ds b v g d)

one_digit : (m : ℕ) → m < 10 → digits_from 0 ((48 + m) ∷ []) ≡ Some m
one_digit m l =
    let is : 0 * 10 + ((48 + m) - 48) ≡ m = omega arith in
    ap (λ t. cond t (Some (0 * 10 + ((48 + m) - 48))) None) (digit_is m l) ∙ ap (λ k. Some k) is

more_digits : (m : ℕ) (ds : List ℕ) → 10 ≤ m → digits_from 0 ds ≡ Some (m / 10) → digits_from 0 (ds ++ ((48 + m % 10) ∷ [])) ≡ Some m
more_digits m ds l h =
    let low : m % 10 < 10 = omega arith in
    let is : (m / 10) * 10 + ((48 + m % 10) - 48) ≡ m = omega arith in
    digits_on 0 ds (48 + m % 10) (m / 10) h (digit_is (m % 10) low) ∙ ap (λ k. Some k) is

decimal_read : (n : ℕ) → n < 2 ^ 64 → digits_from 0 (decimal n) ≡ Some n
decimal_read n small = decimal_by_steps (λ m ds. digits_from 0 ds ≡ Some m) one_digit more_digits n small

pub age_read : (o : Option ℕ) → is_age_or_none o ≡ true → age_of (option_map decimal o) ≡ o
age_read None h = refl
age_read (Some n) h =
    let high : n ≤ 999999999 = leb-true n 999999999 (both_true (nat_le 0 n) (nat_le n 999999999) h).1 in
    let small : n < 2 ^ 64 = omega (arith, high) in
    let some : nat_le 1 (length (decimal n)) ≡ true = le-leb 1 (length (decimal n)) (omega (arith, decimal_nonempty n small)) in
    let few : nat_le (length (decimal n)) 9 ≡ true = le-leb (length (decimal n)) 9 (length-decimal-le 9 n (omega arith) (omega (arith, high)) small) in
    ap (λ b. cond (b && nat_le (length (decimal n)) 9) (digits_from 0 (decimal n)) None) some
    ∙ ap (λ b. cond b (digits_from 0 (decimal n)) None) few
    ∙ decimal_read n small

both_ages : (o : Option ℕ) → (is_some (option_map decimal o) && is_none o) ≡ false
both_ages None = refl
both_ages (Some n) = refl

-- ---- a word that is there stays when empty ones are left out

found_at : (t u : Text) (us : List Text) (b d : Bool) → bytes_eq t u ≡ b → is_filled u ≡ d → is_filled t ≡ true → (b || has_text t us) ≡ true → (has_text t us ≡ true → has_text t (filter is_filled us) ≡ true)
    → has_text t (cond d (u ∷ filter is_filled us) (filter is_filled us)) ≡ true
found_at t u us true true same filled some h later = ap (λ b. b || has_text t (filter is_filled us)) same
found_at t u us true false same empty some h later = absurd (cc (sym (ap is_filled (bytes_same t u same)) ∙ some, empty))
found_at t u us false true other filled some h later = ap (λ b. b || has_text t (filter is_filled us)) other ∙ later h
found_at t u us false false other empty some h later = later h

found_filled : (t : Text) (ts : List Text) → is_filled t ≡ true → has_text t ts ≡ true → has_text t (filter is_filled ts) ≡ true
found_filled t [] some h = absurd (cc)
found_filled t (u ∷ us) some h = found_at t u us (bytes_eq t u) (is_filled u) refl refl some h (found_filled t us some)

openid_there : (scope : Text) → is_scope scope ≡ true → has_text openid_word (parameter_words (Some scope)) ≡ true
unfolding parameter_words
openid_there scope h = found_filled openid_word (words_of scope) refl (both_true (are_words scope_words (words_of scope)) (has_text openid_word (words_of scope)) h).1

-- ---- the number of a type

pub below_of : {X : Type 0} (xs : List X) (i : ℕ) (x : X) → slice_get xs i ≡ Some x → i < length xs
below_of [] i x h = absurd (cc)
below_of (y ∷ ys) zero x h = omega arith
below_of (y ∷ ys) (suc i) x h = omega (arith, below_of ys i x h)

-- ---- what the wish is, whatever the party's `prompt`

module _ (c : Configuration) (n : ℕ) (state nonce : Word) (r : IsRegistry c) (low : n < length c.parties) where
  pub own_types_are : (own_wish c n state nonce).types ≡ (party_row c n).types
  unfolding asking_of
  own_types_are =
      let rules : KeepRules (party_row c n) (party_client c n) = rows_keep_rules c n r low in
      let below : rules.fit.number < length (party_client c n).types = below_of (party_client c n).types rules.fit.number true rules.fit.has_type in
      let six : rules.fit.number < 6 = omega (arith, below, rules.client_rules.types) in
      ap types_of_number (ap (λ types. type_number (types_text types)) rules.fit.types ∙ text_read rules.fit.number six) ∙ sym rules.fit.types

  pub own_age_is : (own_wish c n state nonce).max_age ≡ (party_row c n).max_age
  unfolding asking_of
  own_age_is = age_read (party_row c n).max_age (rows_keep_rules c n r low).party_rules.age

  pub own_wish_of_anybody : (own_wish c n state nonce).subs ≡ None
  unfolding asking_of claims_of
  own_wish_of_anybody = refl

-- ---- no error

module _ (c : Configuration) (n : ℕ) (state nonce : Word) (m : MayAsk c n c.provider.issuer state nonce) (silent : has_text none_word (parameter_words (party_row c n).prompt) ≡ false) where
  abbrev party : Party
  party = party_row c n

  abbrev client : Client
  client = party_client c n

  rules : KeepRules party client
  rules = rows_keep_rules c n m.registry m.party

  number_is : type_of (Some (types_text party.types)) ≡ Some rules.fit.number
  number_is =
      let low : rules.fit.number < length client.types = below_of client.types rules.fit.number true rules.fit.has_type in
      let six : rules.fit.number < 6 = omega (arith, low, rules.client_rules.types) in
      ap (λ types. type_number (types_text types)) rules.fit.types ∙ text_read rules.fit.number six

  abbrev asked : Option Text → Params
  asked object = record (login_params client party state nonce) { request = object }

  no_errors : (object : Option Text) → NoneHolds (errors client (asked object) (asking_of (asked object)) false)
  unfolding errors asking_of claims_of
  no_errors object =
      let age : age_of (option_map decimal party.max_age) ≡ party.max_age = age_read party.max_age rules.party_rules.age in (
        refl,
        (
          refl,
          (
            refl,
            (
              refl,
              (
                ap is_none number_is,
                (
                  ap (λ o. not (may_ask client o)) number_is ∙ ap (λ o. not (unwrap_or o false)) rules.fit.has_type,
                  (
                    refl,
                    (
                      ap not (openid_there party.scope rules.party_rules.scope),
                      (
                        ap (λ l. not (nat_le l 255)) (length-b64u_32 nonce m.nonce_word.long),
                        (
                          ap (λ b. b && has_other none_word (parameter_words party.prompt)) silent,
                          (
                            ap (λ o. is_some (option_map decimal party.max_age) && is_none o) age ∙ both_ages party.max_age,
                            (refl, tt),
                          ),
                        ),
                      ),
                    ),
                  ),
                ),
              ),
            ),
          ),
        ),
      )

  registered : (object : Option Text) → IsRegistered c (asked object) party.client party.redirect
  registered object = record { client = client; there = some_row c.clients party.client no_client (client_is_known c n m.registry m.party); named = refl; asked = refl; registered = rules.fit.redirect }

  granted : (object : Option Text) → judgement c (asked object) false ≡ Grant (wish_of party.client party.redirect (asked object) (asking_of (asked object)))
  granted object =
      granted_without_errors c (asked object) false party.client client party.redirect m.registry.client_ids (registered object)
      (some_row c.clients party.client no_client (client_is_known c n m.registry m.party)) (no_errors object)

  same_wish : (object : Option Text) → wish_of party.client party.redirect (asked object) (asking_of (asked object)) ≡ own_wish c n state nonce
  unfolding asking_of
  same_wish object = refl

  whole_at : (b : Bool) → judgement c (cond b (asked (Some (login_object client party c.provider.issuer state nonce))) (login_params client party state nonce)) false ≡ Grant (own_wish c n state nonce)
  whole_at true =
      let object : Option Text = Some (login_object client party c.provider.issuer state nonce) in
      granted object ∙ ap (λ (w : Wish). Grant w) (same_wish object)
  whole_at false = granted None

  pub own_wish_granted : judgement c (whole_params client party c.provider state nonce) false ≡ Grant (own_wish c n state nonce)
  own_wish_granted = whole_at party.signed

  pub own_wish_may_ask : (own_wish c n state nonce).none ≡ false
  unfolding asking_of
  own_wish_may_ask = silent
