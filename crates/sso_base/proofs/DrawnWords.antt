-- What was drawn for the pairs of a legal past are words, and the text of one determines it.
use Rattle.std.proofs.Common.{◌≡◌, ◌<◌, ℕ, zero, suc, List, [], ◌∷◌, ◌++◌, length, sym, subst, arith}
use Rattle.sso_base.specs.declared.history.Entry.{Entry}
use Rattle.sso_base.specs.declared.history.Pair.{Pair}
use Rattle.sso_base.specs.Words.{Word, IsWord, word_text, fresh_word}
use Rattle.sso_base.specs.Values.{AreWords}
use Rattle.sso_base.specs.Legal.{IsEntry, IsLegalBy}
use Rattle.sso_base.specs.Drawn.{IsDrawn}
use Rattle.sso_base.proofs.WordTexts.{word_text_inj}

nth_is_word : (fresh : List Word) (n : ℕ) → AreWords fresh → n < length fresh → IsWord (fresh_word fresh n)
nth_is_word [] n words low = absurd (omega (arith, low))
nth_is_word (w ∷ fresh) zero words low = words.0
nth_is_word (w ∷ fresh) (suc n) words low = nth_is_word fresh n words.1 (omega (arith, low))

module _ {A R : Type 0} (IsAsk : A → Type 0) (answer : List (Pair A R) → Entry A → R) where
  entry_of_pair : (later earlier : List (Pair A R)) (p : Pair A R) → IsLegalBy IsAsk answer (later ++ p ∷ earlier) → IsEntry IsAsk p.entry
  entry_of_pair [] earlier p legal = legal.1
  entry_of_pair (q ∷ later) earlier p legal = entry_of_pair later earlier p legal.0

  pub drawn_is_word : (past : List (Pair A R)) (w : Word) → IsLegalBy IsAsk answer past → IsDrawn past w → IsWord w
  drawn_is_word past w legal d =
      let L : List (Pair A R) → Type 0 = λ x. IsLegalBy IsAsk answer x in
      let entry : IsEntry IsAsk d.maker.entry = entry_of_pair d.later d.earlier d.maker (subst L d.parts legal) in
      let N : ℕ → Type 0 = λ n. d.number < n in
      subst IsWord (sym d.drawn) (nth_is_word d.maker.entry.fresh d.number entry.words (subst N (sym entry.four) d.low))

  -- two drawn words of one text are one word
  pub texts_tell_words : (past : List (Pair A R)) (v w : Word) → IsLegalBy IsAsk answer past → IsDrawn past v → IsDrawn past w → word_text v ≡ word_text w → v ≡ w
  texts_tell_words past v w legal one other same = word_text_inj v w (drawn_is_word past v legal one) (drawn_is_word past w legal other) same
