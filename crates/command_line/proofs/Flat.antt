-- What clap reads of two to four plain words: under each name the word of its place.
use Rattle.std.proofs.Common.{◌≡◌, ◌==◌, ◌&&◌, ◌≤◌, ℕ, Bool, true, false, not, refl, codes, arith, None, List, [], ◌∷◌, length, slice_get}
use Rattle.std.specs.List.{list_all}
use Rattle.std.proofs.lemmas.Bool.{and_parts}
use Rattle.sso_base.specs.Words.{Text}
use Rattle.clap.specs.Walk.{Rule, Held, Walk, idle, value, first_of, walked, to_positional, arg_by_index}
use Rattle.clap.specs.Simple.{Shape, is_simple, matches_of}
use Rattle.clap.specs.Takes.{takes, step_passes, walk_passes}
use Rattle.clap.proofs.OnLiterals.{clap_on_literals}
use Rattle.command_line.specs.Commands.{is_plain}
use Rattle.command_line.specs.Positionals.{flat}

pub flat_simple : is_simple flat ≡ true
unfolding clap_on_literals flat
flat_simple = refl

-- clap takes the words, and gives each under the name of its place
pub record AreRead (words : List Text) : Type 0 where
  pub taken : takes flat words ≡ true
  pub name : first_of (codes "name") (matches_of flat words) ≡ slice_get words 0
  pub first : first_of (codes "first") (matches_of flat words) ≡ slice_get words 1
  pub second : first_of (codes "second") (matches_of flat words) ≡ slice_get words 2
  pub third : first_of (codes "third") (matches_of flat words) ≡ slice_get words 3

-- a walk between two words, where none has begun an option
abbrev between : Held → ℕ → Walk
between h place = record { held = h; waiting = idle; position = place; is_trailing = false; stopped = None }

-- a word with no hyphen goes to the positional of its place
step : (c : List Rule) (h : Held) (place x : ℕ) (xs : Text) → (x == 45) ≡ false
    → walked c [] (between h place) (x ∷ xs) ≡ to_positional c (arg_by_index c place) (x ∷ xs) (between h place) h
unfolding walked
step c h place x xs ex = simp ex

passed : (s : Shape) (h : Held) (place x : ℕ) (xs : Text) (rest : List Text) → (x == 45) ≡ false
    → walk_passes s [] (between h place) ((x ∷ xs) ∷ rest) ≡ (step_passes s place h value && walk_passes s [] (walked s.rules [] (between h place) (x ∷ xs)) rest)
unfolding walked walk_passes
passed s h place x xs rest ex = simp ex

ended : (s : Shape) (w : Walk) → walk_passes s [] w [] ≡ true
unfolding walk_passes
ended s w = refl

two_read : (x y : ℕ) (xs ys : Text) → (x == 45) ≡ false → (y == 45) ≡ false
    → AreRead ((x ∷ xs) ∷ (y ∷ ys) ∷ [])
unfolding flat
two_read x y xs ys ex ey =
    record {
      taken = simp (passed, step, ended);
      name = simp step;
      first = simp step;
      second = simp step;
      third = simp step;
    }

three_read : (x y z : ℕ) (xs ys zs : Text) → (x == 45) ≡ false → (y == 45) ≡ false → (z == 45) ≡ false
    → AreRead ((x ∷ xs) ∷ (y ∷ ys) ∷ (z ∷ zs) ∷ [])
unfolding flat
three_read x y z xs ys zs ex ey ez =
    record {
      taken = simp (passed, step, ended);
      name = simp step;
      first = simp step;
      second = simp step;
      third = simp step;
    }

four_read : (w x y z : ℕ) (ws xs ys zs : Text) → (w == 45) ≡ false → (x == 45) ≡ false → (y == 45) ≡ false → (z == 45) ≡ false
    → AreRead ((w ∷ ws) ∷ (x ∷ xs) ∷ (y ∷ ys) ∷ (z ∷ zs) ∷ [])
unfolding flat
four_read w x y z ws xs ys zs ew ex ey ez =
    record {
      taken = simp (passed, step, ended);
      name = simp step;
      first = simp step;
      second = simp step;
      third = simp step;
    }

-- ---- plain words

no_hyphen : (x : ℕ) → not (x == 45) ≡ true → (x == 45) ≡ false
no_hyphen x plain = at (x == 45) plain
  where
    at : (hyphen : Bool) → not hyphen ≡ true → hyphen ≡ false
    at true plain = absurd cc
    at false plain = refl

two_plain : (a b : Text) → is_plain a ≡ true → is_plain b ≡ true → AreRead (a ∷ b ∷ [])
two_plain [] b p q = absurd cc
two_plain (x ∷ xs) [] p q = absurd cc
two_plain (x ∷ xs) (y ∷ ys) p q = two_read x y xs ys (no_hyphen x p) (no_hyphen y q)

three_plain : (a b c : Text) → is_plain a ≡ true → is_plain b ≡ true → is_plain c ≡ true → AreRead (a ∷ b ∷ c ∷ [])
three_plain [] b c p q r = absurd cc
three_plain (x ∷ xs) [] c p q r = absurd cc
three_plain (x ∷ xs) (y ∷ ys) [] p q r = absurd cc
three_plain (x ∷ xs) (y ∷ ys) (z ∷ zs) p q r = three_read x y z xs ys zs (no_hyphen x p) (no_hyphen y q) (no_hyphen z r)

four_plain : (a b c d : Text) → is_plain a ≡ true → is_plain b ≡ true → is_plain c ≡ true → is_plain d ≡ true → AreRead (a ∷ b ∷ c ∷ d ∷ [])
four_plain [] b c d p q r s = absurd cc
four_plain (w ∷ ws) [] c d p q r s = absurd cc
four_plain (w ∷ ws) (x ∷ xs) [] d p q r s = absurd cc
four_plain (w ∷ ws) (x ∷ xs) (y ∷ ys) [] p q r s = absurd cc
four_plain (w ∷ ws) (x ∷ xs) (y ∷ ys) (z ∷ zs) p q r s =
    four_read w x y z ws xs ys zs (no_hyphen w p) (no_hyphen x q) (no_hyphen y r) (no_hyphen z s)

pub are_read : (words : List Text) → 2 ≤ length words → length words ≤ 4 → list_all is_plain words ≡ true → AreRead words
are_read [] least most plain = absurd (omega (arith, least))
are_read (a ∷ []) least most plain = absurd (omega (arith, least))
are_read (a ∷ b ∷ []) least most plain =
    let p = and_parts (is_plain a) _ plain in
    let q = and_parts (is_plain b) _ p.1 in
    two_plain a b p.0 q.0
are_read (a ∷ b ∷ c ∷ []) least most plain =
    let p = and_parts (is_plain a) _ plain in
    let q = and_parts (is_plain b) _ p.1 in
    let r = and_parts (is_plain c) _ q.1 in
    three_plain a b c p.0 q.0 r.0
are_read (a ∷ b ∷ c ∷ d ∷ []) least most plain =
    let p = and_parts (is_plain a) _ plain in
    let q = and_parts (is_plain b) _ p.1 in
    let r = and_parts (is_plain c) _ q.1 in
    let s = and_parts (is_plain d) _ r.1 in
    four_plain a b c d p.0 q.0 r.0 s.0
are_read (a ∷ b ∷ c ∷ d ∷ e ∷ rest) least most plain = absurd (omega (arith, most))
