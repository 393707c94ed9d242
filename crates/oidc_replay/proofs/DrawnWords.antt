-- The words of a play: each number has its own word, and each place draws the next four.
use Rattle.std.proofs.Common.{◌≡◌, ℕ, suc, ◌+◌, ◌*◌, ◌^◌, ◌<◌, ◌≤◌, List, ◌∷◌, ◌++◌, inl, inr, refl, sym, ◌∙◌, ap, arith}
use Rattle.std.proofs.lemmas.List.{append_cancel_left}
use Rattle.std.proofs.lemmas.Nat.{from_be_bytes-to_be_bytes_8}
use Rattle.std.specs.Int.{w64, to_be_bytes, from_be_bytes}
use Rattle.std.specs.List.{AllByRecursion}
use Rattle.sso_base.specs.Words.{Word}
use Rattle.sso_model.specs.Lists.{Lacks, AreDistinct}
use Rattle.sso_model.proofs.ListLaws.{all_weaker, all_has}
use Rattle.server_desk.specs.Ahead.{word_of_number}
use Rattle.oidc_replay.specs.Words.{words_after}

-- two numbers of one word are one number
pub word_same : (seed : List ℕ) (i j : ℕ) → i < 2 ^ 64 → j < 2 ^ 64 → word_of_number seed i ≡ word_of_number seed j → i ≡ j
word_same seed i j low high same =
    let bytes : to_be_bytes w64 i ≡ to_be_bytes w64 j = append_cancel_left seed (to_be_bytes w64 i) (to_be_bytes w64 j) same in
    sym (from_be_bytes-to_be_bytes_8 i low) ∙ ap (from_be_bytes w64) bytes ∙ from_be_bytes-to_be_bytes_8 j high

-- a word of one of the first `count` places
pub record IsEarlyWord (seed : List ℕ) (count : ℕ) (word : Word) : Type 0 where
  pub number : ℕ
  pub early : number ≤ 4 * count
  pub is : word ≡ word_of_number seed number

-- it is one when more places follow
pub early_more : (seed : List ℕ) (count : ℕ) (words : List Word) → AllByRecursion (IsEarlyWord seed count) words → AllByRecursion (IsEarlyWord seed (suc count)) words
early_more seed count words early =
    all_weaker (IsEarlyWord seed count) (IsEarlyWord seed (suc count)) words
    (λ word old. let low : old.number ≤ 4 * count = old.early in record { number = old.number; early = omega arith; is = old.is }) early

-- the word of an early number
early_word : (seed : List ℕ) (count number : ℕ) → number ≤ 4 * count → IsEarlyWord seed count (word_of_number seed number)
early_word seed count number low = record { number = number; early = low; is = refl }

-- the four words of the next place are words of the places up to it
pub early_next : (seed : List ℕ) (count : ℕ) → AllByRecursion (IsEarlyWord seed (suc count)) (words_after seed count)
early_next seed count =
    let first : IsEarlyWord seed (suc count) (word_of_number seed (4 * count + 1)) = early_word seed (suc count) (4 * count + 1) (omega arith) in
    let second : IsEarlyWord seed (suc count) (word_of_number seed (4 * count + 2)) = early_word seed (suc count) (4 * count + 2) (omega arith) in
    let third : IsEarlyWord seed (suc count) (word_of_number seed (4 * count + 3)) = early_word seed (suc count) (4 * count + 3) (omega arith) in
    let fourth : IsEarlyWord seed (suc count) (word_of_number seed (4 * count + 4)) = early_word seed (suc count) (4 * count + 4) (omega arith) in
    (first, (second, (third, (fourth, tt))))

-- words of earlier places are other words than that of a later number
later_lacks : (seed : List ℕ) (count number : ℕ) (words : List Word) → AllByRecursion (IsEarlyWord seed count) words → 4 * count < number → number < 2 ^ 64 → Lacks words (word_of_number seed number)
later_lacks seed count number words early after room = λ has.
    let old : IsEarlyWord seed count (word_of_number seed number) = all_has (IsEarlyWord seed count) words (word_of_number seed number) early has in
    let low : old.number ≤ 4 * count = old.early in
    let same : number ≡ old.number = word_same seed number old.number room (omega arith) old.is in
    absurd (omega arith)

-- a later number has another word
word_other : (seed : List ℕ) (early late : ℕ) → early < late → late < 2 ^ 64 → word_of_number seed late ≡ word_of_number seed early → ⊥
word_other seed early late less room same =
    let one : late ≡ early = word_same seed late early room (omega arith) same in
    absurd (omega arith)

-- the four words of the next place differ, and are other words than those of earlier places
pub next_distinct : (seed : List ℕ) (count : ℕ) (words : List Word) → count < 2 ^ 60 → AllByRecursion (IsEarlyWord seed count) words → AreDistinct words → AreDistinct (words_after seed count ++ words)
next_distinct seed count words room early distinct =
    let old : (number : ℕ) → 4 * count < number → number < 2 ^ 64 → Lacks words (word_of_number seed number) = λ number after few. later_lacks seed count number words early after few in
    let fourth : Lacks words (word_of_number seed (4 * count + 4)) = old (4 * count + 4) (omega arith) (omega arith) in
    let third : Lacks (word_of_number seed (4 * count + 4) ∷ words) (word_of_number seed (4 * count + 3)) =
    λ has. elim has [
      | inl same ↦ word_other seed (4 * count + 3) (4 * count + 4) (omega arith) (omega arith) same
      | inr rest ↦ old (4 * count + 3) (omega arith) (omega arith) rest
    ] in
    let second : Lacks (word_of_number seed (4 * count + 3) ∷ word_of_number seed (4 * count + 4) ∷ words) (word_of_number seed (4 * count + 2)) =
    λ has. elim has [
      | inl same ↦ word_other seed (4 * count + 2) (4 * count + 3) (omega arith) (omega arith) same
      | inr (inl same) ↦ word_other seed (4 * count + 2) (4 * count + 4) (omega arith) (omega arith) same
      | inr (inr rest) ↦ old (4 * count + 2) (omega arith) (omega arith) rest
    ] in
    let first : Lacks (word_of_number seed (4 * count + 2) ∷ word_of_number seed (4 * count + 3) ∷ word_of_number seed (4 * count + 4) ∷ words) (word_of_number seed (4 * count + 1)) =
    λ has. elim has [
      | inl same ↦ word_other seed (4 * count + 1) (4 * count + 2) (omega arith) (omega arith) same
      | inr (inl same) ↦ word_other seed (4 * count + 1) (4 * count + 3) (omega arith) (omega arith) same
      | inr (inr (inl same)) ↦ word_other seed (4 * count + 1) (4 * count + 4) (omega arith) (omega arith) same
      | inr (inr (inr rest)) ↦ old (4 * count + 1) (omega arith) (omega arith) rest
    ] in
    (first, (second, (third, (fourth, distinct))))
