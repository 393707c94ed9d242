-- What words say, by how many they are.
use Rattle.std.proofs.Common.{◌≡◌, ◌≢◌, ℕ, Bor, List, [], ◌∷◌, get_or, length, map, Option, None, refl, sym, arith}
use Rattle.sso_base.specs.Words.{Text}
use Rattle.client_registry.specs.Configuration.{Configuration}
use Rattle.trace_lines.specs.declared.line.Line.{Line}
use Rattle.trace_lines.specs.declared.verb.Verb.{Verb}
use Rattle.trace_lines.specs.declared.verb.Verb.TheVariants.{At}
use Rattle.trace_lines.specs.Said.{short_said}

-- the word at this place, from 0
abbrev pub at : List (Bor Text) → ℕ → Text
at words k = (get_or words k (record { ref_ptr = (0, 0); now = [] })).now

abbrev pub said_of : Configuration → Verb → List (Bor Text) → Option Line
said_of c verb words = short_said c verb (map (λ w. w.now) words)

pub at_one : (c : Configuration) (verb : Verb) (words : List (Bor Text)) → length words ≡ 1 → said_of c verb words ≡ short_said c verb (at words 0 ∷ [])
at_one c verb [] one = absurd (omega arith)
at_one c verb (w ∷ []) one = refl
at_one c verb (w ∷ x ∷ words) one = absurd (omega arith)

pub at_two : (c : Configuration) (verb : Verb) (words : List (Bor Text)) → length words ≡ 2 → said_of c verb words ≡ short_said c verb (at words 0 ∷ at words 1 ∷ [])
at_two c verb [] two = absurd (omega arith)
at_two c verb (w ∷ []) two = absurd (omega arith)
at_two c verb (w ∷ x ∷ []) two = refl
at_two c verb (w ∷ x ∷ y ∷ words) two = absurd (omega arith)

pub at_three : (c : Configuration) (verb : Verb) (words : List (Bor Text)) → length words ≡ 3 → said_of c verb words ≡ short_said c verb (at words 0 ∷ at words 1 ∷ at words 2 ∷ [])
at_three c verb [] three = absurd (omega arith)
at_three c verb (w ∷ []) three = absurd (omega arith)
at_three c verb (w ∷ x ∷ []) three = absurd (omega arith)
at_three c verb (w ∷ x ∷ y ∷ []) three = refl
at_three c verb (w ∷ x ∷ y ∷ z ∷ words) three = absurd (omega arith)

pub at_four : (c : Configuration) (verb : Verb) (words : List (Bor Text)) → length words ≡ 4 → said_of c verb words ≡ short_said c verb (at words 0 ∷ at words 1 ∷ at words 2 ∷ at words 3 ∷ [])
at_four c verb [] four = absurd (omega arith)
at_four c verb (w ∷ []) four = absurd (omega arith)
at_four c verb (w ∷ x ∷ []) four = absurd (omega arith)
at_four c verb (w ∷ x ∷ y ∷ []) four = absurd (omega arith)
at_four c verb (w ∷ x ∷ y ∷ z ∷ []) four = refl
at_four c verb (v ∷ w ∷ x ∷ y ∷ z ∷ words) four = absurd (omega arith)

no_words : (c : Configuration) (verb : Verb) → short_said c verb [] ≡ None
no_words c At = refl
no_words c verb = refl

five_words : (c : Configuration) (verb : Verb) (v w x y z : Text) (words : List Text) → short_said c verb (v ∷ w ∷ x ∷ y ∷ z ∷ words) ≡ None
five_words c At v w x y z words = refl
five_words c verb v w x y z words = refl

-- other numbers of words say nothing
pub other_count : (c : Configuration) (verb : Verb) (words : List (Bor Text)) → length words ≢ 1 → length words ≢ 2 → length words ≢ 3 → length words ≢ 4 → None ≡ said_of c verb words
other_count c verb [] one two three four = sym (no_words c verb)
other_count c verb (w ∷ []) one two three four = absurd (one refl)
other_count c verb (w ∷ x ∷ []) one two three four = absurd (two refl)
other_count c verb (w ∷ x ∷ y ∷ []) one two three four = absurd (three refl)
other_count c verb (w ∷ x ∷ y ∷ z ∷ []) one two three four = absurd (four refl)
other_count c verb (v ∷ w ∷ x ∷ y ∷ z ∷ words) one two three four = sym (five_words c verb v.now w.now x.now y.now z.now (map (λ u. u.now) words))
