-- Text in UTF-8 is a list of bytes.
use Rattle.std.proofs.Common.{◌≡◌, ◌<◌, ◌≤◌, ℕ, ◌+◌, ◌/◌, List, [], ◌∷◌, Bool, true, false, ◌&&◌, cond, nat_lt, refl, sym, arith, subst, ◌⊎◌, inl, inr, true≢false}
use Rattle.std.specs.List.{list_all, All, AllByRecursion}
use Rattle.std.proofs.lemmas.List.Elements.{All-nil, All-cons}
use Rattle.std.specs.Str.{IsUtf8}
use Rattle.std.proofs.lemmas.List.Folds.{list_all-append}
use Rattle.std.proofs.lemmas.Str.{IsUtf8-from_ascii}
use Rattle.std.proofs.lemmas.Str.Ascii.{IsAscii-from_all}
use Rattle.std.proofs.lemmas.Grind.{common_steps}
use Rattle.sso_base.specs.Texts.{is_ascii}
use lib.Utf8.{encode, encodes, next, scalar, scalars, scalar_cases}

abbrev IsByte : ℕ → Type 0
IsByte b = b < 256

abbrev pub are_bytes : List ℕ → Bool
are_bytes b = list_all (λ x. nat_lt x 256) b

-- no byte of a text is as great as this one
abbrev are_below_255 : List ℕ → Bool
are_below_255 b = list_all (λ x. nat_lt x 255) b

is_below : (x : ℕ) → x < 255 → nat_lt x 255 ≡ true
is_below x h = grind (arith, common_steps)

below_of : (c n : ℕ) → nat_lt c n ≡ true → c < n
below_of c n h = grind (arith, common_steps)

next_byte : (n : ℕ) → nat_lt (next n) 255 ≡ true
next_byte n = is_below (next n) (omega arith)

encode_at : (c : ℕ) (t u v : Bool) → nat_lt c 128 ≡ t → nat_lt c 2048 ≡ u → nat_lt c 65536 ≡ v → c < 1114112
    → are_below_255 (cond t (c ∷ []) (cond u ((192 + c / 64) ∷ next c ∷ []) (cond v ((224 + c / 4096) ∷ next (c / 64) ∷ next c ∷ []) ((240 + c / 262144) ∷ next (c / 4096) ∷ next (c / 64) ∷ next c ∷ [])))) ≡ true
encode_at c true u v e f g h = let low = below_of c 128 e in rw (is_below c (omega (arith, low)))
encode_at c false true v e f g h = let low = below_of c 2048 f in rw (is_below (192 + c / 64) (omega (arith, low)), next_byte c)
encode_at c false false true e f g h = let low = below_of c 65536 g in rw (is_below (224 + c / 4096) (omega (arith, low)), next_byte (c / 64), next_byte c)
encode_at c false false false e f g h = rw (is_below (240 + c / 262144) (omega (arith, h)), next_byte (c / 4096), next_byte (c / 64), next_byte c)

fits : (c : ℕ) → (c < 55296) ⊎ ((57344 ≤ c) × (c < 1114112)) → c < 1114112
fits c (inl h) = omega (arith, h)
fits c (inr h) = h.1

encode_bytes : (c : ℕ) → scalar c ≡ true → are_below_255 (encode c) ≡ true
unfolding encode
encode_bytes c s = encode_at c (nat_lt c 128) (nat_lt c 2048) (nat_lt c 65536) refl refl refl (fits c (scalar_cases c s))

both : (a b : Bool) → (a && b) ≡ true → (a ≡ true) × (b ≡ true)
both true b h = (refl, h)
both false b h = absurd (true≢false (sym h))

encodes_bytes : (cs : List ℕ) → scalars cs ≡ true → are_below_255 (encodes cs) ≡ true
encodes_bytes [] h = refl
encodes_bytes (c ∷ cs) h =
    let parts = both (scalar c) (scalars cs) h in
    rw (list_all-append (λ x. nat_lt x 255) (encode c) (encodes cs), encode_bytes c parts.0, encodes_bytes cs parts.1)

all_below : (bs : List ℕ) → are_below_255 bs ≡ true → AllByRecursion (λ b. b < 255) bs
all_below [] h = tt
all_below (b ∷ bs) h = let parts = both (nat_lt b 255) (are_below_255 bs) h in (below_of b 255 parts.0, all_below bs parts.1)

pub below_255-IsUtf8 : (bs : List ℕ) → IsUtf8 bs → AllByRecursion (λ b. b < 255) bs
below_255-IsUtf8 bs h = all_below bs (subst (λ xs. are_below_255 xs ≡ true) h.1.1 (encodes_bytes h.0 h.1.0))

is_byte : (x : ℕ) → x < 255 → nat_lt x 256 ≡ true
is_byte x h = grind (arith, common_steps)

bytes_below : (bs : List ℕ) → AllByRecursion (λ b. b < 255) bs → are_bytes bs ≡ true
bytes_below [] h = refl
bytes_below (b ∷ bs) h = rw (is_byte b h.0, bytes_below bs h.1)

pub are_bytes-IsUtf8 : (bs : List ℕ) → IsUtf8 bs → are_bytes bs ≡ true
are_bytes-IsUtf8 bs h = bytes_below bs (below_255-IsUtf8 bs h)

all_bytes : (bs : List ℕ) → are_bytes bs ≡ true → All IsByte bs
all_bytes [] h = All-nil IsByte
all_bytes (b ∷ bs) h = let parts = both (nat_lt b 256) (are_bytes bs) h in All-cons IsByte b bs (below_of b 256 parts.0) (all_bytes bs parts.1)

pub bytes-IsUtf8 : (bs : List ℕ) → IsUtf8 bs → All (λ b. b < 256) bs
bytes-IsUtf8 bs h = all_bytes bs (are_bytes-IsUtf8 bs h)

-- ---- ASCII is UTF-8

abbrev IsLow : ℕ → Type 0
IsLow b = b < 128

all_low : (bs : List ℕ) → is_ascii bs ≡ true → All IsLow bs
all_low [] h = All-nil IsLow
all_low (b ∷ bs) h = let parts = both (nat_lt b 128) (is_ascii bs) h in All-cons IsLow b bs (below_of b 128 parts.0) (all_low bs parts.1)

pub IsUtf8-are_ascii : (bs : List ℕ) → is_ascii bs ≡ true → IsUtf8 bs
IsUtf8-are_ascii bs h = IsUtf8-from_ascii bs (IsAscii-from_all bs (all_low bs h))
