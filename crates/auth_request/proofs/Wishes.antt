-- What a granted wish keeps.
use Rattle.std.proofs.Common.{◌≡◌, ◌<◌, ◌≤◌, ◌^◌, ◌+◌, ◌*◌, ◌-◌, ℕ, List, [], ◌∷◌, length, Bool, true, false, not, ◌&&◌, ◌||◌, cond, nat_le, codes, Option, Some, None, is_some, slice_get, unwrap_or, refl, ap, subst, ◌∙◌, arith}
use Rattle.std.specs.Prelude.{IfSome}
use Rattle.std.specs.Str.{bytes_eq}
use Rattle.std.specs.Char.{is_ascii_digit}
use Rattle.std.proofs.lemmas.Grind.{common_steps}
use Rattle.std.proofs.lemmas.Slice.Eq.{bytes_eq-Decides}
use Rattle.sso_base.proofs.Refusals.{none_holds}
use Rattle.std.proofs.lemmas.Bool.{leb-true}
use Rattle.sso_base.proofs.Decided.{not_not}
use Rattle.client_registry.specs.declared.records.Client.{Client}
use Rattle.oidc_words.specs.Types.{types_of_number}
use Rattle.client_registry.specs.Configuration.{Configuration}
use Rattle.request_params.specs.declared.params.Params.{Params}
use Rattle.auth_request.specs.declared.wish.Wish.{Wish}
use Rattle.auth_request.specs.declared.wish.Verdict.TheVariants.{Grant}
use Rattle.sso_base.specs.Texts.{has_text}
use Rattle.oidc_words.specs.Words.{parameter_words, has_other}
use Rattle.auth_request.specs.Parameters.{asking_of, digits_from, age_of}
use Rattle.auth_request.specs.Judgement.{may_ask, is_bad_nonce, errors, judgement}
use Rattle.auth_request.specs.Granted.{IsWish, IsWishOf}
use Rattle.auth_request.proofs.Numbers.{one_more, up}
use Rattle.auth_request.proofs.Reaching.{granted, wish_is, is_registered, has_uri, is_below}

-- ---- the response type

record HasType (k : Client) (o : Option ℕ) : Type 0 where
  number : ℕ
  is : o ≡ Some number
  has_type : slice_get k.types number ≡ Some true

type_there : (n : ℕ) (k : Client) (t : Option Bool) → slice_get k.types n ≡ t → unwrap_or t false ≡ true → slice_get k.types n ≡ Some true
type_there n k None is h = absurd (cc)
type_there n k (Some b) is h = is ∙ ap Some h

has_its_type : (k : Client) (o : Option ℕ) → may_ask k o ≡ true → HasType k o
has_its_type k None h = absurd (cc)
has_its_type k (Some n) h = record { number = n; is = refl; has_type = type_there n k (slice_get k.types n) refl h }

-- ---- the nonce

nonce_there : (n : Option ℕ) (o : Option (List ℕ)) → is_bad_nonce n o ≡ false → (types_of_number n).id_token ≡ true → is_some o ≡ true
nonce_there n None h t = absurd (cc)
nonce_there n (Some nonce) h t = refl

nonce_short : (n : Option ℕ) (o : Option (List ℕ)) → is_bad_nonce n o ≡ false → IfSome o (λ t. length t ≤ 255)
nonce_short n None h = tt
nonce_short n (Some nonce) h = leb-true (length nonce) 255 (not_not (nat_le (length nonce) 255) h)

-- ---- the values of `prompt`

and_false : (a b : Bool) → (a && b) ≡ false → a ≡ true → b ≡ false
and_false true b h t = h
and_false false b h t = absurd (cc)

or_false : (a b : Bool) → (a || b) ≡ false → (a ≡ false) × (b ≡ false)
or_false true b h = absurd (cc)
or_false false b h = (refl, h)

-- a word that is not `none` is another word
differs : (w v : List ℕ) (b : Bool) → bytes_eq (codes "none") v ≡ b → not b ≡ false → bytes_eq w (codes "none") ≡ false → bytes_eq w v ≡ false
differs w v true is h other =
    let one : codes "none" ≡ v = (bytes_eq-Decides (codes "none") v).0 is in
    subst (λ u. bytes_eq w u ≡ false) one other
differs w v false is h other = absurd (cc)

has_no_other : (w : List ℕ) (ws : List (List ℕ)) → bytes_eq w (codes "none") ≡ false → has_other (codes "none") ws ≡ false → has_text w ws ≡ false
has_no_other w [] other h = refl
has_no_other w (v ∷ ws) other h =
    let parts = or_false (not (bytes_eq (codes "none") v)) (has_other (codes "none") ws) h in
    rw (differs w v (bytes_eq (codes "none") v) refl parts.0 other, has_no_other w ws other parts.1) refl

-- ---- the age

digit_step : (b : ℕ) (ds : List ℕ) (n i m : ℕ) (t : Bool) → is_ascii_digit b ≡ t → n < 10 ^ i → ((k j : ℕ) → k < 10 ^ j → digits_from k ds ≡ Some m → m < 10 ^ (j + length ds))
    → cond t (digits_from (n * 10 + (b - 48)) ds) None ≡ Some m → m < 10 ^ (i + length (b ∷ ds))
digit_step b ds n i m true t small rest h =
    let digit : b - 48 ≤ 9 = grind (arith, t, common_steps) in
    let e : (i + 1) + length ds ≡ i + length (b ∷ ds) = omega arith in
    subst (λ k. m < 10 ^ k) e (rest (n * 10 + (b - 48)) (i + 1) (one_more n i (b - 48) small digit) h)
digit_step b ds n i m false t small rest h = absurd (cc)

digits_small : (ds : List ℕ) (n i m : ℕ) → n < 10 ^ i → digits_from n ds ≡ Some m → m < 10 ^ (i + length ds)
digits_small [] n i m small h = let e : n ≡ m = cc in let k : i + 0 ≡ i = omega arith in rw k (omega (arith, small, e))
digits_small (b ∷ ds) n i m small h = digit_step b ds n i m (is_ascii_digit b) refl small (λ k j. digits_small ds k j m) h

in_bounds : (t : List ℕ) (b : Bool) (m : ℕ) → (nat_le 1 (length t) && nat_le (length t) 9) ≡ b → cond b (digits_from 0 t) None ≡ Some m → m < 10 ^ 9
in_bounds t true m is h =
    let few : length t ≤ 9 = grind (arith, is, common_steps) in
    let none : 0 + length t ≡ length t = omega arith in
    let small : m < 10 ^ length t = subst (λ k. m < 10 ^ k) none (digits_small t 0 0 m (omega arith) h) in
    omega (arith, small, up (9 - length t) (length t) 9 (omega (arith, few)))
in_bounds t false m is h = absurd (cc)

age_small : (o : Option (List ℕ)) (a : Option ℕ) → age_of o ≡ a → IfSome a (λ n. n < 10 ^ 9)
age_small o None h = tt
age_small None (Some m) h = absurd (cc)
age_small (Some t) (Some m) h = in_bounds t _ m refl h

-- ---- all of it

pub wish_of_request : (c : Configuration) (p : Params) (b : Bool) (w : Wish) → judgement c p b ≡ Grant w → IsWishOf p w
unfolding asking_of
wish_of_request c p b w h =
    let r = granted c p b w h in
    let is = (wish_is c p b w r).1 in
    subst (IsWishOf p) is (record { redirect = (is_registered c p b (Grant w) r).asked; types = refl; scopes = refl; state = refl; nonce = refl; none = refl; login = refl; consent = refl; max_age = refl })

pub wish_keeps : (c : Configuration) (p : Params) (b : Bool) (w : Wish) → judgement c p b ≡ Grant w → IsWish c w
unfolding asking_of errors
wish_keeps c p b w h =
    let r = granted c p b w h in
    let is = wish_is c p b w r in
    let a = asking_of p in
    let none = none_holds (errors r.client p a b) is.0 in
    let type = has_its_type r.client a.number (not_not _ none.1.1.1.1.1.0) in
    let nonce = none.1.1.1.1.1.1.1.1.0 in
    let alone = and_false a.prompt.none a.prompt.others none.1.1.1.1.1.1.1.1.1.0 in
    let no = λ (w : List ℕ) (other : bytes_eq w (codes "none") ≡ false) (t : a.prompt.none ≡ true). has_no_other w (parameter_words p.prompt) other (alone t) in
    subst (IsWish c) is.1 (record {
      below = is_below p.client_id c.clients r.number r.found;
      client = r.client;
      there = r.there;
      registered = has_uri c p b (Grant w) r;
      number = type.number;
      types = ap types_of_number type.is;
      has_type = type.has_type;
      openid = not_not _ none.1.1.1.1.1.1.1.0;
      nonce = nonce_there a.number p.nonce nonce;
      short_nonce = nonce_short a.number p.nonce nonce;
      no_login = λ t. rw (no (codes "login") refl t, no (codes "select_account") refl t) refl;
      no_consent = λ t. no (codes "consent") refl t;
      age = age_small p.max_age a.max_age refl;
    })
