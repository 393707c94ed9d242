-- A text with a space in place of its first colon.
use Rattle.std.proofs.Common.{◌≡◌, ◌<◌, ◌+◌, ◌==◌, ◌++◌, not, ℕ, suc, Bool, true, false, cond, [], ◌∷◌, take, drop, length, refl, sym, ap, ◌∙◌, subst, arith, codes, append_assoc}
use Rattle.std.specs.List.{before_first, after_first, position_or_len}
use Rattle.sso_base.specs.Words.{Text}
use Rattle.web_requests.specs.Raw.{spaced}

abbrev is_colon : ℕ → Bool
is_colon b = b == 58

one_more : (n : ℕ) → 1 + n ≡ suc n
one_more n = omega arith

place_at : (b : ℕ) (t : Text) (c : Bool) → is_colon b ≡ c → position_or_len is_colon (b ∷ t) ≡ cond c 0 (suc (position_or_len is_colon t))
place_at b t true is = ap (λ x. cond (not x) (1 + position_or_len is_colon t) 0) is
place_at b t false is = ap (λ x. cond (not x) (1 + position_or_len is_colon t) 0) is ∙ one_more (position_or_len is_colon t)

spaced_at : (b : ℕ) (t : Text) (c : Bool) → is_colon b ≡ c → spaced (b ∷ t) ≡ cond c (32 ∷ t) (b ∷ spaced t)
spaced_at b t c is = ap (λ x. cond x (32 ∷ t) (b ∷ spaced t)) is

abbrev Parts : Text → ℕ → Type 0
Parts t n = spaced t ≡ take n t ++ 32 ∷ drop (n + 1) t

none_below : {Z : Type 0} (n : ℕ) → n < 0 → Z
none_below n h = absurd (omega (arith, h))

less : (n m : ℕ) → suc n < suc m → n < m
less n m h = omega (arith, h)

no_less : (n m : ℕ) → suc n ≡ suc m → n ≡ m
no_less n m h = omega (arith, h)

later_parts : (b : ℕ) (t : Text) (n : ℕ) → Parts t n → b ∷ spaced t ≡ take (suc n) (b ∷ t) ++ 32 ∷ drop (suc n + 1) (b ∷ t)
later_parts b t n h =
    let next : suc n + 1 ≡ suc (n + 1) = omega arith in
    ap (λ (s : Text). b ∷ s) h ∙ ap (λ m. take (suc n) (b ∷ t) ++ 32 ∷ drop m (b ∷ t)) (sym next)

parts_at : (b : ℕ) (t : Text) (c : Bool) → is_colon b ≡ c → (position_or_len is_colon t < length t → Parts t (position_or_len is_colon t)) → position_or_len is_colon (b ∷ t) < suc (length t)
    → Parts (b ∷ t) (position_or_len is_colon (b ∷ t))
parts_at b t true is later h = spaced_at b t true is ∙ ap (λ n. take n (b ∷ t) ++ 32 ∷ drop (n + 1) (b ∷ t)) (sym (place_at b t true is))
parts_at b t false is later h =
    let n = position_or_len is_colon t in
    let at : position_or_len is_colon (b ∷ t) ≡ suc n = place_at b t false is in
    let low : n < length t = less n (length t) (subst (λ m. m < suc (length t)) at h) in
    spaced_at b t false is ∙ later_parts b t n (later low) ∙ ap (λ m. take m (b ∷ t) ++ 32 ∷ drop (m + 1) (b ∷ t)) (sym at)

pub spaced_parts : (t : Text) → position_or_len (λ b. b == 58) t < length t → spaced t ≡ before_first (λ b. b == 58) t ++ 32 ∷ after_first (λ b. b == 58) t
spaced_parts [] h = none_below (position_or_len is_colon []) h
spaced_parts (b ∷ t) h = parts_at b t (is_colon b) refl (spaced_parts t) h

pub spaced_joined : (t a b : Text) → position_or_len (λ x. x == 58) t < length t → a ≡ before_first (λ x. x == 58) t → b ≡ after_first (λ x. x == 58) t → a ++ codes " " ++ b ≡ spaced t
spaced_joined t a b low front back =
    append_assoc a (codes " ") b ∙ ap (λ (s : Text). s ++ 32 ∷ b) front ∙ ap (λ (s : Text). before_first (λ x. x == 58) t ++ 32 ∷ s) back ∙ sym (spaced_parts t low)

never_there : {Z : Type 0} (n : ℕ) → 0 ≡ suc n → Z
never_there n h = absurd (omega (arith, h))

whole_at : (b : ℕ) (t : Text) (c : Bool) → is_colon b ≡ c → (position_or_len is_colon t ≡ length t → spaced t ≡ t) → position_or_len is_colon (b ∷ t) ≡ suc (length t) → spaced (b ∷ t) ≡ b ∷ t
whole_at b t true is later h = never_there (length t) (sym (place_at b t true is) ∙ h)
whole_at b t false is later h =
    spaced_at b t false is ∙ ap (λ (s : Text). b ∷ s) (later (no_less (position_or_len is_colon t) (length t) (sym (place_at b t false is) ∙ h)))

pub spaced_whole : (t : Text) → position_or_len (λ b. b == 58) t ≡ length t → spaced t ≡ t
spaced_whole [] h = refl
spaced_whole (b ∷ t) h = whole_at b t (is_colon b) refl (spaced_whole t) h
