-- One more pair of a core that stands around another one: its history stays legal.
use Rattle.std.proofs.Common.{◌≡◌, ◌≤◌, ℕ, ◌+◌, List, [], ◌∷◌, ◌++◌, reverse, filter_map, Option, Some, None, sym, ◌∙◌, ap, subst, arith}
use Rattle.sso_base.specs.Legal.{last_moment, IsEntry}
use Rattle.sso_base.specs.Journal.{history_weight}
use Rattle.sso_base.specs.declared.history.Entry.{Entry}
use Rattle.sso_base.specs.declared.history.Pair.{Pair}
use Rattle.sso_base.proofs.Histories.{past_more, weight_more}
use Rattle.core_stack.specs.Stacked.{AreAnswered, IsLegalStack}
use Rattle.core_stack.proofs.Passing.{own_adds_none, passed_adds_one}

sum_low : (most all before v w : ℕ) → all ≡ before + v → w ≡ v → before + w ≤ most → all ≤ most
sum_low most all before v w is same low = omega (arith, is, same, low)

sum_same : (all before v w : ℕ) → all ≡ before + v → w ≡ v → before + w ≡ all
sum_same all before v w is same = omega (arith, is, same)

-- the weight of the history with one more pair
pub weight_after : {B T : Type 0} (weighs : B → ℕ) (h : List (Pair B T)) (p : Pair B T) (weight w : ℕ) → weight ≡ history_weight weighs h → w ≡ weighs p.entry.ask → weight + w ≡ history_weight weighs (h ++ p ∷ [])
weight_after weighs h p weight w is same =
    let W : ℕ → ℕ = λ n. n + w in
    ap W is ∙ sum_same (history_weight weighs (h ++ p ∷ [])) (history_weight weighs h) (weighs p.entry.ask) w (weight_more weighs h p) same

module _ {A R B T S : Type 0} (IsAsk : B → Type 0) (IsReply : List (Pair B T) → Entry B → T → Type 0) (passed : Pair B T → Option (Pair A R)) (weighs : B → ℕ) (most : S → ℕ)
    (IsLegalInner : S → List (Pair A R) → Type 0) where
  legal_more : (s : S) (h : List (Pair B T)) (p : Pair B T) (w : ℕ) → IsLegalStack IsAsk IsReply passed weighs most IsLegalInner s h → IsEntry IsAsk p.entry → last_moment (reverse h) ≤ p.entry.at
      → IsReply (reverse h) p.entry p.reply → w ≡ weighs p.entry.ask → history_weight weighs h + w ≤ most s → IsLegalInner s (filter_map passed (h ++ p ∷ []))
      → IsLegalStack IsAsk IsReply passed weighs most IsLegalInner s (h ++ p ∷ [])
  legal_more s h p w legal entry order reply weight room inner =
      let L : List (Pair B T) → Type 0 = λ past. AreAnswered IsAsk IsReply past in
      record {
        answered = subst L (sym (past_more h p)) (legal.answered, entry, order, reply);
        inner = inner;
        light = sum_low (most s) (history_weight weighs (h ++ p ∷ [])) (history_weight weighs h) (weighs p.entry.ask) w (weight_more weighs h p) weight room;
      }

  -- that the core answered by itself
  pub legal_own : (s : S) (h : List (Pair B T)) (p : Pair B T) (w : ℕ) → IsLegalStack IsAsk IsReply passed weighs most IsLegalInner s h → passed p ≡ None → IsEntry IsAsk p.entry
      → last_moment (reverse h) ≤ p.entry.at → IsReply (reverse h) p.entry p.reply → w ≡ weighs p.entry.ask → history_weight weighs h + w ≤ most s
      → IsLegalStack IsAsk IsReply passed weighs most IsLegalInner s (h ++ p ∷ [])
  legal_own s h p w legal none entry order reply weight room =
      let I : List (Pair A R) → Type 0 = λ l. IsLegalInner s l in
      legal_more s h p w legal entry order reply weight room (subst I (sym (own_adds_none passed h p none)) legal.inner)

  -- that it passed on
  pub legal_passed : (s : S) (h : List (Pair B T)) (p : Pair B T) (q : Pair A R) (inner : List (Pair A R)) (w : ℕ) → IsLegalStack IsAsk IsReply passed weighs most IsLegalInner s h → passed p ≡ Some q
      → filter_map passed h ≡ inner → IsEntry IsAsk p.entry → last_moment (reverse h) ≤ p.entry.at → IsReply (reverse h) p.entry p.reply → w ≡ weighs p.entry.ask
      → history_weight weighs h + w ≤ most s → IsLegalInner s (inner ++ q ∷ []) → IsLegalStack IsAsk IsReply passed weighs most IsLegalInner s (h ++ p ∷ [])
  legal_passed s h p q inner w legal is inner_is entry order reply weight room more =
      let I : List (Pair A R) → Type 0 = λ l. IsLegalInner s l in
      let E : List (Pair A R) → List (Pair A R) = λ l. l ++ q ∷ [] in
      legal_more s h p w legal entry order reply weight room (subst I (ap E (sym inner_is) ∙ sym (passed_adds_one passed h p q is)) more)
