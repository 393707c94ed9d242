-- Words of a list of known ones, each at most once, with one space between: they are a text of printable ASCII that is not long.
use Rattle.std.proofs.Common.{◌≡◌, ◌≤◌, ◌<◌, ◌==◌, ◌+◌, ◌||◌, not, ℕ, Bool, true, false, cond, List, [], ◌∷◌, length, codes, refl, sym, ap, ◌∙◌, arith, true≢false}
use Rattle.std.specs.List.{list_all, onto_first}
use Rattle.std.specs.Str.{bytes_eq}
use Rattle.std.proofs.lemmas.Bool.Decides.{nat_tests}
use Rattle.std.proofs.lemmas.List.Splits.{length-slice_split}
use Rattle.std.proofs.lemmas.Slice.Eq.{bytes_eq-Decides}
use Rattle.sso_base.specs.Texts.{has_text}
use Rattle.oidc_words.specs.Words.{is_distinct, words_of, are_words}
use Rattle.oidc_words.specs.Scopes.{scope_words, is_scope}
use Rattle.oidc_words.specs.Prompts.{prompt_words, is_prompt}
use Rattle.sso_base.specs.Words.{Text}
use Rattle.sso_base.proofs.Spelling.{both_true}
use Rattle.claim_set.proofs.PlainTexts.{is_printable, is_plain}

-- a text of printable ASCII that is neither empty nor longer than this
pub record IsTextTo (most : ℕ) (t : Text) : Type 0 where
  pub plain : is_plain t ≡ true
  pub short : length t ≤ most
  pub filled : ¬ (t ≡ [])

either_false : (a b : Bool) → (a || b) ≡ false → (a ≡ false) × (b ≡ false)
either_false true b h = absurd (true≢false h)
either_false false b h = (refl, h)

not_true : (b : Bool) → not b ≡ true → b ≡ false
not_true true h = absurd (true≢false (sym h))
not_true false h = refl

is_same : (t u : Text) → bytes_eq t u ≡ true → t ≡ u
is_same t u h = (bytes_eq-Decides t u).0 h

-- ---- how long words are, with one byte more for each

abbrev total : List Text → ℕ
total [] = 0
total (w ∷ ws) = length w + (1 + total ws)

some_words : (t : Text) → 0 < length (words_of t)
some_words t = omega (arith, length-slice_split (λ b. b == 32) t)

total_at : (b : Bool) (x : ℕ) (ws : List Text) → 0 < length ws → total (cond b ([] ∷ ws) (onto_first x ws)) ≡ total ws + 1
total_at true x ws l = omega arith
total_at false x [] l = absurd (omega (arith, l))
total_at false x (w ∷ ws) l = omega arith

total-words : (t : Text) → total (words_of t) ≡ length t + 1
total-words [] = refl
total-words (x ∷ t) = omega (arith, total_at (x == 32) x (words_of t) (some_words t), total-words t)

-- ---- known words without one of them

abbrev without : Text → List Text → List Text
without w [] = []
without w (k ∷ ks) = cond (bytes_eq w k) ks (k ∷ without w ks)

total_without_at : (w k : Text) (ks : List Text) (b : Bool) → bytes_eq w k ≡ b → (b || has_text w ks) ≡ true → (has_text w ks ≡ true → total ks ≡ length w + (1 + total (without w ks)))
    → total (k ∷ ks) ≡ length w + (1 + total (cond b ks (k ∷ without w ks)))
total_without_at w k ks true is h later = ap (λ v. length v + (1 + total ks)) (sym (is_same w k is))
total_without_at w k ks false is h later = omega (arith, later h)

total-without : (w : Text) (ks : List Text) → has_text w ks ≡ true → total ks ≡ length w + (1 + total (without w ks))
total-without w [] h = absurd (true≢false (sym h))
total-without w (k ∷ ks) h = total_without_at w k ks (bytes_eq w k) refl h (total-without w ks)

kept_at : (w v k : Text) (ks : List Text) (b c : Bool) → bytes_eq w k ≡ b → bytes_eq v k ≡ c → bytes_eq w v ≡ false → (c || has_text v ks) ≡ true → (has_text v ks ≡ true → has_text v (without w ks) ≡ true)
    → has_text v (cond b ks (k ∷ without w ks)) ≡ true
kept_at w v k ks true true is there apart h later =
    let same : bytes_eq w v ≡ true = (bytes_eq-Decides w v).1 (is_same w k is ∙ sym (is_same v k there)) in
    absurd (true≢false (sym same ∙ apart))
kept_at w v k ks true false is there apart h later = h
kept_at w v k ks false true is there apart h later = rw there refl
kept_at w v k ks false false is there apart h later = rw there (later h)

kept : (w v : Text) (ks : List Text) → bytes_eq w v ≡ false → has_text v ks ≡ true → has_text v (without w ks) ≡ true
kept w v [] apart h = absurd (true≢false (sym h))
kept w v (k ∷ ks) apart h = kept_at w v k ks (bytes_eq w k) (bytes_eq v k) refl refl apart h (kept w v ks apart)

all_kept : (w : Text) (ks ws : List Text) → has_text w ws ≡ false → list_all (λ v. has_text v ks) ws ≡ true → list_all (λ v. has_text v (without w ks)) ws ≡ true
all_kept w ks [] apart h = refl
all_kept w ks (v ∷ ws) apart h =
    let other = either_false (bytes_eq w v) (has_text w ws) apart in
    let known = both_true (has_text v ks) (list_all (λ u. has_text u ks) ws) h in
    rw (kept w v ks other.0 known.0, all_kept w ks ws other.1 known.1) refl

-- words that stand once each are together no longer than all that are known
at_most_all : (ks ws : List Text) → list_all (λ w. has_text w ks) ws ≡ true → is_distinct ws ≡ true → total ws ≤ total ks
at_most_all ks [] known apart = omega arith
at_most_all ks (w ∷ ws) known apart =
    let first = both_true (has_text w ks) (list_all (λ v. has_text v ks) ws) known in
    let once = both_true (not (has_text w ws)) (is_distinct ws) apart in
    let rest = at_most_all (without w ks) ws (all_kept w ks ws (not_true (has_text w ws) once.0) first.1) once.1 in
    omega (arith, total-without w ks first.0, rest)

-- ---- printable ASCII

known_plain_at : (w k : Text) (ks : List Text) (b : Bool) → bytes_eq w k ≡ b → (b || has_text w ks) ≡ true → is_plain k ≡ true → (has_text w ks ≡ true → is_plain w ≡ true) → is_plain w ≡ true
known_plain_at w k ks true is h plain later = ap is_plain (is_same w k is) ∙ plain
known_plain_at w k ks false is h plain later = later h

known_plain : (w : Text) (ks : List Text) → list_all is_plain ks ≡ true → has_text w ks ≡ true → is_plain w ≡ true
known_plain w [] all h = absurd (true≢false (sym h))
known_plain w (k ∷ ks) all h =
    let each = both_true (is_plain k) (list_all is_plain ks) all in
    known_plain_at w k ks (bytes_eq w k) refl h each.0 (known_plain w ks each.1)

all_plain : (ks ws : List Text) → list_all is_plain ks ≡ true → list_all (λ w. has_text w ks) ws ≡ true → list_all is_plain ws ≡ true
all_plain ks [] all h = refl
all_plain ks (w ∷ ws) all h =
    let known = both_true (has_text w ks) (list_all (λ v. has_text v ks) ws) h in
    rw (known_plain w ks all known.0, all_plain ks ws all known.1) refl

is_space : (x : ℕ) → (x == 32) ≡ true → is_printable x ≡ true
is_space x h = let is : x ≡ 32 = grind (arith, nat_tests, h) in rw is refl

cut_plain : (b : Bool) (x : ℕ) (ws : List Text) → (x == 32) ≡ b → 0 < length ws → list_all is_plain (cond b ([] ∷ ws) (onto_first x ws)) ≡ true → (is_printable x ≡ true) × (list_all is_plain ws ≡ true)
cut_plain true x ws is l h = (is_space x is, h)
cut_plain false x [] is l h = absurd (omega (arith, l))
cut_plain false x (w ∷ ws) is l h =
    let parts = both_true (is_plain (x ∷ w)) (list_all is_plain ws) h in
    let first = both_true (is_printable x) (is_plain w) parts.0 in
    (first.0, rw (first.1, parts.1) refl)

words_plain : (t : Text) → list_all is_plain (words_of t) ≡ true → is_plain t ≡ true
words_plain [] h = refl
words_plain (x ∷ t) h =
    let parts = cut_plain (x == 32) x (words_of t) refl (some_words t) h in
    rw (parts.0, words_plain t parts.1) refl

-- ---- a scope, and the words of `prompt`

filled_by : (t : Text) (p : Text → Bool) → p [] ≡ false → p t ≡ true → ¬ (t ≡ [])
filled_by t p none h is = absurd (true≢false (sym h ∙ (ap p is ∙ none)))

short_by : (t : Text) (ws : List Text) (most : ℕ) → total ws ≡ length t + 1 → total ws ≤ most + 1 → length t ≤ most
short_by t ws most is h = omega (arith, is, h)

of_words : (t : Text) (ks : List Text) (most : ℕ) → list_all is_plain ks ≡ true → total ks ≡ most + 1 → are_words ks (words_of t) ≡ true → (is_plain t ≡ true) × (length t ≤ most)
of_words t ks most plain long h =
    let parts = both_true (list_all (λ w. has_text w ks) (words_of t)) (is_distinct (words_of t)) h in
    let within = at_most_all ks (words_of t) parts.0 parts.1 in
    (words_plain t (all_plain ks (words_of t) plain parts.0), short_by t (words_of t) most (total-words t) (omega (arith, within, long)))

pub scope_text : (t : Text) → is_scope t ≡ true → IsTextTo 34 t
scope_text t h =
    let words = of_words t scope_words 34 refl refl (both_true (are_words scope_words (words_of t)) (has_text (codes "openid") (words_of t)) h).0 in
    record { plain = words.0; short = words.1; filled = filled_by t is_scope refl h }

pub prompt_text : (t : Text) → is_prompt t ≡ true → IsTextTo 33 t
prompt_text t h =
    let words = of_words t prompt_words 33 refl refl h in
    record { plain = words.0; short = words.1; filled = filled_by t is_prompt refl h }
