-- An escaped text has no character that ends a text or a value, and is read as it was.
use Rattle.std.proofs.Common.{◌≡◌, ℕ, ◌==◌, Bool, true, false, [], ◌∷◌, ◌++◌, codes, if◌then◌else◌, refl, sym, ap, ◌∙◌, arith}
use Rattle.std.specs.List.{list_any}
use Rattle.std.proofs.lemmas.Bool.Decides.{nat_tests}
use Rattle.std.proofs.lemmas.List.Folds.{list_any-append}
use Rattle.sso_base.specs.Words.{Text}
use Rattle.http_reply.proofs.Characters.{or_none}
use Rattle.html_pages.specs.Escaping.{spelled, escaped, read_after, text_read, is_quote, is_less, is_greater, IsInert}

-- a byte as it is written, by what it is
abbrev as_written : Bool → Bool → Bool → Bool → ℕ → Text
as_written amp less greater quote b =
    if amp then codes "&amp;"
    else (if less then codes "&lt;"
    else (if greater then codes "&gt;"
    else (if quote then codes "&quot;" else b ∷ [])))

-- ---- characters that an escaped text has not

none_of_one : (q : ℕ → Bool) (b : ℕ) → q b ≡ false → list_any q (b ∷ []) ≡ false
none_of_one q b e = or_none (q b) false e refl

quote_by : (amp less greater quote : Bool) (b : ℕ) → (b == 34) ≡ quote → list_any is_quote (as_written amp less greater quote b) ≡ false
quote_by true less greater quote b e = refl
quote_by false true greater quote b e = refl
quote_by false false true quote b e = refl
quote_by false false false true b e = refl
quote_by false false false false b e = none_of_one is_quote b e

less_by : (amp less greater quote : Bool) (b : ℕ) → (b == 60) ≡ less → list_any is_less (as_written amp less greater quote b) ≡ false
less_by true less greater quote b e = refl
less_by false true greater quote b e = refl
less_by false false true quote b e = refl
less_by false false false true b e = refl
less_by false false false false b e = none_of_one is_less b e

greater_by : (amp less greater quote : Bool) (b : ℕ) → (b == 62) ≡ greater → list_any is_greater (as_written amp less greater quote b) ≡ false
greater_by true less greater quote b e = refl
greater_by false true greater quote b e = refl
greater_by false false true quote b e = refl
greater_by false false false true b e = refl
greater_by false false false false b e = none_of_one is_greater b e

-- what no byte's spelling has, no escaped text has
none_in : (q : ℕ → Bool) → ((b : ℕ) → list_any q (spelled b) ≡ false) → (t : Text) → list_any q (escaped t) ≡ false
none_in q free [] = refl
none_in q free (b ∷ t) =
    list_any-append q (spelled b) (escaped t) ∙ or_none (list_any q (spelled b)) (list_any q (escaped t)) (free b) (none_in q free t)

pub inert : (t : Text) → IsInert (escaped t)
inert t =
    record {
      quote = none_in is_quote (λ b. quote_by (b == 38) (b == 60) (b == 62) (b == 34) b refl) t;
      less = none_in is_less (λ b. less_by (b == 38) (b == 60) (b == 62) (b == 34) b refl) t;
      greater = none_in is_greater (λ b. greater_by (b == 38) (b == 60) (b == 62) (b == 34) b refl) t;
    }

-- ---- reading

found : (n k : ℕ) → (n == k) ≡ true → n ≡ k
found n k h = grind (arith, nat_tests)

read_by : (amp less greater quote : Bool) (b : ℕ) (t : Text) → (b == 38) ≡ amp → (b == 60) ≡ less → (b == 62) ≡ greater → (b == 34) ≡ quote
    → read_after 0 (as_written amp less greater quote b ++ t) ≡ b ∷ read_after 0 t
read_by true less greater quote b t e f g h = ap (λ c. c ∷ read_after 0 t) (sym (found b 38 e))
read_by false true greater quote b t e f g h = ap (λ c. c ∷ read_after 0 t) (sym (found b 60 f))
read_by false false true quote b t e f g h = ap (λ c. c ∷ read_after 0 t) (sym (found b 62 g))
read_by false false false true b t e f g h = ap (λ c. c ∷ read_after 0 t) (sym (found b 34 h))
read_by false false false false b t e f g h = rw e refl

pub read_as_it_was : (t : Text) → text_read (escaped t) ≡ t
read_as_it_was [] = refl
read_as_it_was (b ∷ t) =
    read_by (b == 38) (b == 60) (b == 62) (b == 34) b (escaped t) refl refl refl refl ∙ ap (λ s. b ∷ s) (read_as_it_was t)
