-- Each step on the table of permits keeps its rule.
use Rattle.std.proofs.Common.{◌≡◌, ℕ, zero, suc, ◌+◌, ◌-◌, ◌%◌, ◌^◌, ◌<◌, ◌≤◌, false, eqb, List, [], ◌∷◌, ◌++◌, get_or, set, sym, refl, ap, ◌∙◌}
use Rattle.std.proofs.Common.{subst, arith, length-set, get_or-set_same, eq-eqb, ne_eqb}
use mathlib.Core.Logic.{dite}
use mathlib.Core.Option.{none, some, some-injective, some-ne-none}
use native.Mathlib.Decide.{ℕ_discrete}
use lib.ListN.{get_elem?}
use prog.Atomic.{either}
use Rattle.atomic_table.specs.Table.{State, Me, step, keeps, stepped, opening, Allows, Enters}
use Rattle.work_permits.specs.declared.holder.Holder.{Holder}
use Rattle.work_permits.specs.Rule.{nobody, holding, turned_away, one_if, holding_in, KeepsCount}
use Rattle.work_permits.specs.Steps.{Sits, Looks, Takes, Gives}

-- the number of permits that are out, after one seat has changed
holding_in-set : (l : List Holder) (i : ℕ) (v w : Holder) → get_elem? l i ≡ some v → holding_in (set l i w) + one_if v.holds ≡ holding_in l + one_if w.holds
holding_in-set [] i v w e = absurd (some-ne-none v (sym e))
holding_in-set (x ∷ xs) zero v w e = let is : one_if x.holds ≡ one_if v.holds = ap (λ (h : Holder). one_if h.holds) (some-injective x v e) in omega arith
holding_in-set (x ∷ xs) (suc i) v w e = let r = holding_in-set xs i v w e in omega arith

-- and after a new seat came that has none
holding_in-new : (l : List Holder) (most : ℕ) → holding_in (l ++ nobody most ∷ []) ≡ holding_in l
holding_in-new [] most = refl
holding_in-new (x ∷ xs) most = ap (λ (n : ℕ). one_if x.holds + n) (holding_in-new xs most)

abbrev Mine : Type 0
Mine = Me (Unit {0}) Holder

abbrev St : Type 0
St = State (Unit {0}) Holder

placed : (most : ℕ) (s : St) (k : KeepsCount most s) (n id : ℕ) (me : Mine) (w : Holder) → holding_in (set s.views id w) ≡ n → n ≤ most
    → KeepsCount most (stepped s 0 n id me.1 w keeps)
placed most s k n id me w is few =
    let wide = k.one in
    let less : holding_in (set s.views id w) ≤ most = omega arith in
    record { one = length-set s.words 0 n ∙ wide; out = get_or-set_same s.words 0 n 0 (omega arith) ∙ sym is; few = less }

-- a step that leaves the word as it is, by a seat that has as many permits as before
unmoved : (most : ℕ) (s : St) (k : KeepsCount most s) (id : ℕ) (me : Mine) (w : Holder) → get_elem? s.views id ≡ some me.0 → w.holds ≡ me.0.holds
    → KeepsCount most (stepped s 0 (get_or s.words 0 0) id me.1 w keeps)
unmoved most s k id me w at same =
    let sum = holding_in-set s.views id me.0 w at in
    let equal : one_if w.holds ≡ one_if me.0.holds = ap one_if same in
    let out = k.out in let few = k.few in
    placed most s k (get_or s.words 0 0) id me w (omega arith) (omega arith)

pub opens : (most : ℕ) → KeepsCount most (opening (0 ∷ []) [] (nobody most))
opens most = record { one = refl; out = refl; few = omega arith }

pub sits : (most slots : ℕ) → Enters (KeepsCount most) slots 0 (λ n w. Sits (step slots 0 0 0 none) (nobody most, []) n (w, []))
sits most slots s k _ _ =
    let same = holding_in-new s.views most in let out = k.out in let few = k.few in
    (nobody most, record { one = k.one; out = omega arith; few = omega arith }, refl)

pub looks : (most slots id : ℕ) (me : Mine) → me.0 ≡ nobody most → Allows (KeepsCount most) slots id me 0 (λ x. x) (Looks (step slots 0 0 0 none) me)
looks most slots id me is_nobody s k _ at _ =
    let x : ℕ = get_or s.words 0 0 in let out = k.out in let few = k.few in
    let all : me.0.most ≡ most = ap (λ (h : Holder). h.most) is_nobody in
    let idle : me.0.holds ≡ false = ap (λ (h : Holder). h.holds) is_nobody in
    let high : x ≤ me.0.most = omega arith in
    dite (ℕ_discrete x me.0.most)
    (λ hit. (turned_away me.0.most, keeps, tt, unmoved most s k id me (turned_away me.0.most) at (sym idle), (high, (λ _. refl), λ not. absurd (not hit))))
    (λ miss. (me.0, keeps, tt, unmoved most s k id me me.0 at refl, (high, (λ hit. absurd (miss hit)), λ _. refl)))

pub takes : (most slots id : ℕ) (me : Mine) (old : ℕ) → me.0 ≡ nobody most → old < most
    → Allows (KeepsCount most) slots id me 0 (λ x. either (eqb x old) (old + 1) x) (Takes (step slots 0 old (old + 1) none) me)
takes most slots id me old is_nobody room s k _ at _ =
    let x : ℕ = get_or s.words 0 0 in
    let sum = holding_in-set s.views id me.0 (holding me.0.most) at in
    let none_yet : one_if me.0.holds ≡ 0 = ap (λ (h : Holder). one_if h.holds) is_nobody in
    let out = k.out in
    dite (ℕ_discrete x old)
    (λ hit. (
      holding me.0.most,
      keeps,
      tt,
      subst (λ b. KeepsCount most (stepped s 0 (either b (old + 1) x) id me.1 (holding me.0.most) keeps)) (sym (eq-eqb x old hit))
          (placed most s k (old + 1) id me (holding me.0.most) (omega arith) (omega arith)),
      ((λ _. refl), λ not. absurd (not hit)),
    ))
    (λ miss. (
      me.0,
      keeps,
      tt,
      subst (λ b. KeepsCount most (stepped s 0 (either b (old + 1) x) id me.1 me.0 keeps)) (sym (ne_eqb x old miss)) (unmoved most s k id me me.0 at refl),
      ((λ hit. absurd (miss hit)), λ _. refl),
    ))

pub gives : (most slots id : ℕ) (me : Mine) → me.0 ≡ holding most
    → Allows (KeepsCount most) slots id me 0 (λ x. (x + (2 ^ 64 - 1)) % 2 ^ 64) (Gives (step slots 0 1 0 none) me)
gives most slots id me is_holding s k _ at small =
    let x : ℕ = get_or s.words 0 0 in
    let w : Holder = nobody me.0.most in
    let n : ℕ = holding_in (set s.views id w) in
    let one : one_if me.0.holds ≡ 1 = ap (λ (h : Holder). one_if h.holds) is_holding in
    let sum = holding_in-set s.views id me.0 w at in
    let out = k.out in let few = k.few in
    let more : holding_in s.views ≡ n + 1 = omega arith in
    let fits : x < 18446744073709551616 = small in
    let less : n ≡ (x + 18446744073709551615) % 18446744073709551616 = omega arith in
    (w, keeps, tt, subst (λ (z : ℕ). KeepsCount most (stepped s 0 z id me.1 w keeps)) less (placed most s k n id me w refl (omega arith)), refl)
