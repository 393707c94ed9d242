-- The inner history of a past: its moments and its weight; and beginnings of legal histories.
use Rattle.std.proofs.Common.{◌≡◌, ◌≤◌, ℕ, ◌+◌, List, [], ◌∷◌, ◌++◌, reverse, filter_map, Option, Some, None, refl, ap, sym, ◌∙◌, subst, inl, inr, arith}
use Rattle.std.specs.List.{cons_option}
use Rattle.std.proofs.lemmas.List.{append-nil, reverse-append}
use Rattle.std.proofs.lemmas.List.Sums.{sum_by-cons}
use Rattle.std.proofs.lemmas.List.Elements.{filter_map-append}
use Rattle.sso_base.specs.Legal.{last_moment}
use Rattle.sso_base.specs.Journal.{history_weight}
use Rattle.sso_base.specs.declared.history.Entry.{Entry}
use Rattle.sso_base.specs.declared.history.Pair.{Pair}
use Rattle.sso_base.proofs.Histories.{light_beginning}
use Rattle.sso_base.proofs.RowLaws.{option_cases}
use Rattle.core_stack.specs.Stacked.{AreAnswered, IsLegalStack}

low_twice : (a b c : ℕ) → a ≤ b → b ≤ c → a ≤ c
low_twice a b c l m = omega (arith, l, m)

low_same : (a : ℕ) → a ≤ a
low_same a = omega arith

low_is : (a b : ℕ) → a ≡ b → a ≤ b
low_is a b same = omega (arith, same)

more_low : (whole inner all outer w v : ℕ) → whole ≡ w + inner → all ≡ v + outer → w ≤ v → inner ≤ outer → whole ≤ all
more_low whole inner all outer w v one two low lower = omega (arith, one, two, low, lower)

same_low : (inner all outer v : ℕ) → all ≡ v + outer → inner ≤ outer → inner ≤ all
same_low inner all outer v is low = omega (arith, is, low)

-- ---- pairs that are answered

module _ {B T : Type 0} (IsAsk : B → Type 0) (IsReply : List (Pair B T) → Entry B → T → Type 0) where
  pub answered_earlier : (later earlier : List (Pair B T)) → AreAnswered IsAsk IsReply (later ++ earlier) → AreAnswered IsAsk IsReply earlier
  answered_earlier [] earlier is = is
  answered_earlier (p ∷ later) earlier is = answered_earlier later earlier is.0

  -- a pair of the past was answered after its own past
  pub pair_answered : (later earlier : List (Pair B T)) (p : Pair B T) → AreAnswered IsAsk IsReply (later ++ p ∷ earlier) → IsReply earlier p.entry p.reply
  pair_answered later earlier p is = (answered_earlier later (p ∷ earlier) is).3

-- ---- the pairs of the inner core

module _ {A R B T : Type 0} (passed : Pair B T → Option (Pair A R)) where
  abbrev pub inside_of : List (Pair B T) → List (Pair A R)
  inside_of h = filter_map passed h

  one_reversed : (p : Pair B T) → reverse (inside_of (p ∷ [])) ≡ inside_of (p ∷ [])
  one_reversed p =
      let F : Option (Pair A R) → Type 0 = λ o. reverse (cons_option o []) ≡ cons_option o [] in
      elim (option_cases (passed p)) [ inl none ↦ subst F (sym none) refl | inr some ↦ subst F (sym some.1) refl ]

  pub inner_reversed : (h : List (Pair B T)) → reverse (inside_of h) ≡ inside_of (reverse h)
  inner_reversed [] = refl
  inner_reversed (p ∷ h) =
      let I : List (Pair B T) → List (Pair A R) = λ l. inside_of l in
      let E : List (Pair A R) → List (Pair A R) = λ l. l ++ reverse (inside_of (p ∷ [])) in
      let G : List (Pair A R) → List (Pair A R) = λ l. inside_of (reverse h) ++ l in
      ap reverse (filter_map-append passed (p ∷ []) h)
      ∙ reverse-append (inside_of (p ∷ [])) (inside_of h)
      ∙ ap E (inner_reversed h)
      ∙ ap G (one_reversed p)
      ∙ sym (filter_map-append passed (reverse h) (p ∷ []))
      ∙ ap I (sym (reverse-append (p ∷ []) h))

  -- an entry that the core answered by itself
  pub own_adds_none : (h : List (Pair B T)) (p : Pair B T) → passed p ≡ None → inside_of (h ++ p ∷ []) ≡ inside_of h
  own_adds_none h p none =
      let F : Option (Pair A R) → List (Pair A R) = λ o. inside_of h ++ cons_option o [] in
      filter_map-append passed h (p ∷ []) ∙ ap F none ∙ append-nil (inside_of h)

  -- an entry that was passed on
  pub passed_adds_one : (h : List (Pair B T)) (p : Pair B T) (q : Pair A R) → passed p ≡ Some q → inside_of (h ++ p ∷ []) ≡ inside_of h ++ q ∷ []
  passed_adds_one h p q is =
      let F : Option (Pair A R) → List (Pair A R) = λ o. inside_of h ++ cons_option o [] in
      filter_map-append passed h (p ∷ []) ∙ ap F is

  -- ---- moments

  module _ (IsAsk : B → Type 0) (IsReply : List (Pair B T) → Entry B → T → Type 0) (moments : (p : Pair B T) (q : Pair A R) → passed p ≡ Some q → q.entry.at ≡ p.entry.at) where
    -- the inner core is never ahead
    pub inner_last : (past : List (Pair B T)) → AreAnswered IsAsk IsReply past → last_moment (inside_of past) ≤ last_moment past
    inner_last [] is = low_same 0
    inner_last (p ∷ past) is =
        let L : Option (Pair A R) → Type 0 = λ o. last_moment (cons_option o (inside_of past)) ≤ p.entry.at in
        elim (option_cases (passed p)) [
          | inl none ↦ subst L (sym none) (low_twice (last_moment (inside_of past)) (last_moment past) p.entry.at (inner_last past is.0) is.2)
          | inr some ↦ subst L (sym some.1) (low_is some.0.entry.at p.entry.at (moments p some.0 some.1))
        ]

  -- ---- weights

  module _ (inside : A → ℕ) (weighs : B → ℕ) (weights : (p : Pair B T) (q : Pair A R) → passed p ≡ Some q → inside q.entry.ask ≤ weighs p.entry.ask) where
    -- the inner history weighs no more
    pub inner_lighter : (h : List (Pair B T)) → history_weight inside (inside_of h) ≤ history_weight weighs h
    inner_lighter [] = low_same 0
    inner_lighter (p ∷ h) =
        let of_inner : Pair A R → ℕ = λ q. inside q.entry.ask in
        let of_outer : Pair B T → ℕ = λ q. weighs q.entry.ask in
        let L : Option (Pair A R) → Type 0 = λ o. history_weight inside (cons_option o (inside_of h)) ≤ history_weight weighs (p ∷ h) in
        elim (option_cases (passed p)) [
          | inl none ↦ subst L (sym none)
              (same_low (history_weight inside (inside_of h)) (history_weight weighs (p ∷ h)) (history_weight weighs h) (weighs p.entry.ask) (sum_by-cons of_outer p h) (inner_lighter h))
          | inr some ↦ subst L (sym some.1)
              (more_low (history_weight inside (some.0 ∷ inside_of h)) (history_weight inside (inside_of h)) (history_weight weighs (p ∷ h)) (history_weight weighs h) (inside some.0.entry.ask) (weighs p.entry.ask)
              (sum_by-cons of_inner some.0 (inside_of h)) (sum_by-cons of_outer p h) (weights p some.0 some.1) (inner_lighter h))
        ]

-- ---- beginnings

pub beginning_is_legal : {A R B T S : Type 0} (IsAsk : B → Type 0) (IsReply : List (Pair B T) → Entry B → T → Type 0) (passed : Pair B T → Option (Pair A R)) (weighs : B → ℕ) (most : S → ℕ)
    (IsLegalInner : S → List (Pair A R) → Type 0) → ((s : S) (front rest : List (Pair A R)) → IsLegalInner s (front ++ rest) → IsLegalInner s front)
    → (s : S) (front rest : List (Pair B T)) → IsLegalStack IsAsk IsReply passed weighs most IsLegalInner s (front ++ rest) → IsLegalStack IsAsk IsReply passed weighs most IsLegalInner s front
beginning_is_legal {A} {R} {B} {T} IsAsk IsReply passed weighs most IsLegalInner inner_beginning s front rest legal =
    let L : List (Pair B T) → Type 0 = λ past. AreAnswered IsAsk IsReply past in
    let I : List (Pair A R) → Type 0 = λ h. IsLegalInner s h in
    record {
      answered = answered_earlier IsAsk IsReply (reverse rest) (reverse front) (subst L (reverse-append front rest) legal.answered);
      inner = inner_beginning s (filter_map passed front) (filter_map passed rest) (subst I (filter_map-append passed front rest) legal.inner);
      light = light_beginning weighs (most s) front rest legal.light;
    }
