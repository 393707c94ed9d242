-- Sample pasts whose pairs have numbered words, each pair the words after those of the earlier pairs: none draws a word again.
use Rattle.std.proofs.Common.{◌≡◌, ◌≤◌, ◌<◌, ℕ, zero, suc, ◌+◌, List, [], ◌∷◌, ◌++◌, slice_index_or, refl, sym, ap, ◌∙◌, subst, arith}
use Rattle.sso_base.specs.Words.{Word, fresh_word}
use Rattle.sso_base.specs.Drawn.{IsDrawn}
use Rattle.sso_base.specs.declared.history.Pair.{Pair}
use Rattle.sso_base.proofs.SampleWords.{word, words}

-- the number of a sample's word
abbrev number : Word → ℕ
number w = slice_index_or w 31 0

no_fifth : (k : ℕ) → suc (suc (suc (suc k))) < 4 → ⊥
no_fifth k low = omega (arith, low)

plus_zero : (m : ℕ) → m ≡ m + zero
plus_zero m = omega arith

plus_one : (m : ℕ) → m + 1 ≡ m + suc zero
plus_one m = omega arith

plus_two : (m : ℕ) → m + 2 ≡ m + suc (suc zero)
plus_two m = omega arith

plus_three : (m : ℕ) → m + 3 ≡ m + suc (suc (suc zero))
plus_three m = omega arith

word_number : (m k : ℕ) → k < 4 → number (fresh_word (words m) k) ≡ m + k
word_number m zero low = plus_zero m
word_number m (suc zero) low = plus_one m
word_number m (suc (suc zero)) low = plus_two m
word_number m (suc (suc (suc zero))) low = plus_three m
word_number m (suc (suc (suc (suc k)))) low = absurd (no_fifth k low)

low_by : (m n k x : ℕ) → m + 4 ≤ n → k < 4 → x ≡ m + k → x < n
low_by m n k x room low is = omega (arith, room, low, is)

not_below : (m k x : ℕ) → x ≡ m + k → x < m → ⊥
not_below m k x is low = omega (arith, is, low)

-- the four words from a number on are below any number that is greater by four
pub words_below : (m n : ℕ) → m + 4 ≤ n → (k : ℕ) → k < 4 → number (fresh_word (words m) k) < n
words_below m n room k low = low_by m n k (number (fresh_word (words m) k)) room low (word_number m k low)

module _ {A R : Type 0} where
  -- all words of a past are below a number
  abbrev pub AreBelow : ℕ → List (Pair A R) → Type 0
  AreBelow n [] = Unit {0}
  AreBelow n (p ∷ past) = AreBelow n past × ((k : ℕ) → k < 4 → number (fresh_word p.entry.fresh k) < n)

  below_at : (n : ℕ) (later earlier : List (Pair A R)) (p : Pair A R) → AreBelow n (later ++ p ∷ earlier) → (k : ℕ) → k < 4 → number (fresh_word p.entry.fresh k) < n
  below_at n [] earlier p is k low = is.1 k low
  below_at n (q ∷ later) earlier p is k low = below_at n later earlier p is.0 k low

  drawn_below : (n : ℕ) (past : List (Pair A R)) (w : Word) → AreBelow n past → IsDrawn past w → number w < n
  drawn_below n past w is d =
      let B : List (Pair A R) → Type 0 = λ l. AreBelow n l in
      let L : Word → Type 0 = λ x. number x < n in
      subst L (sym d.drawn) (below_at n d.later d.earlier d.maker (subst B d.parts is) d.number d.low)

  pub no_word_again : (m : ℕ) (past : List (Pair A R)) → AreBelow m past → (k : ℕ) → k < 4 → IsDrawn past (fresh_word (words m) k) → ⊥
  no_word_again m past is k low d = not_below m k (number (fresh_word (words m) k)) (word_number m k low) (drawn_below m past (fresh_word (words m) k) is d)
