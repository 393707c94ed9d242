-- Texts of printable ASCII: they are in UTF-8, and in JSON no byte takes more than two.
use Rattle.std.proofs.Common.{◌≡◌, ◌≤◌, ◌&&◌, ◌+◌, ◌*◌, ℕ, Bool, true, false, cond, List, [], ◌∷◌, length, nat_le, nat_lt, refl, arith, true≢false, length-append}
use Rattle.std.specs.List.{list_all}
use Rattle.std.specs.Str.{IsUtf8}
use Rattle.std.proofs.lemmas.Grind.{common_steps}
use Rattle.json.specs.Print.{escape_letter, escape_byte, escape, quoted}
use Rattle.json.proofs.Printed.Utf8.{IsUtf8-are_ascii}
use Rattle.sso_base.specs.Texts.{is_ascii}
use Rattle.sso_base.proofs.Spelling.{both_true}

-- a printable character of ASCII
abbrev pub is_printable : ℕ → Bool
is_printable b = nat_le 32 b && nat_lt b 128

abbrev pub is_plain : List ℕ → Bool
is_plain t = list_all is_printable t

-- ---- what plain texts keep

ascii_of : (t : List ℕ) → is_plain t ≡ true → is_ascii t ≡ true
ascii_of [] h = refl
ascii_of (b ∷ t) h =
    let parts = both_true (is_printable b) (is_plain t) h in
    rw ((both_true (nat_le 32 b) (nat_lt b 128) parts.0).1, ascii_of t parts.1)

pub IsUtf8-plain : (t : List ℕ) → is_plain t ≡ true → IsUtf8 t
IsUtf8-plain t h = IsUtf8-are_ascii t (ascii_of t h)

two_at : (t u : Bool) (x y : ℕ) (six : List ℕ) → u ≡ false → length (cond t (92 ∷ y ∷ []) (cond u six (x ∷ []))) ≤ 2
two_at true u x y six h = omega arith
two_at false true x y six h = absurd (true≢false h)
two_at false false x y six h = omega arith

not_below : (b : ℕ) → nat_le 32 b ≡ true → nat_lt b 32 ≡ false
not_below b h = grind (arith, common_steps)

length-escape_byte : (b : ℕ) → is_printable b ≡ true → length (escape_byte b) ≤ 2
unfolding escape_byte
length-escape_byte b h =
    two_at (nat_lt 0 (escape_letter b)) (nat_lt b 32) b (escape_letter b) _ (not_below b (both_true (nat_le 32 b) (nat_lt b 128) h).0)

length-escape : (t : List ℕ) → is_plain t ≡ true → length (escape t) ≤ 2 * length t
length-escape [] h = omega arith
length-escape (b ∷ t) h =
    let parts = both_true (is_printable b) (is_plain t) h in
    omega (arith, length-append (escape_byte b) (escape t), length-escape_byte b parts.0, length-escape t parts.1)

pub length-quoted_plain : (t : List ℕ) → is_plain t ≡ true → length (quoted t) ≤ 2 * length t + 2
length-quoted_plain t h = omega (arith, length-append (escape t) (34 ∷ []), length-escape t h)

-- ---- which texts are plain

pub plain_by : (p : ℕ → Bool) → ((b : ℕ) → p b ≡ true → is_printable b ≡ true) → (t : List ℕ) → list_all p t ≡ true → is_plain t ≡ true
plain_by p goes [] h = refl
plain_by p goes (b ∷ t) h =
    let parts = both_true (p b) (list_all p t) h in
    rw (goes b parts.0, plain_by p goes t parts.1)
