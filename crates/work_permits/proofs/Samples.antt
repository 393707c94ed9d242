-- The definitions on small numbers of permits and of workers.
use Rattle.std.proofs.Common.{◌≡◌, ◌≤◌, true, false, [], ◌∷◌, refl, ap, arith}
use Rattle.atomic_table.specs.Table.{step}
use mathlib.Core.Option.{none}
use Rattle.work_permits.specs.declared.holder.Holder.{Holder}
use Rattle.work_permits.specs.Rule.{nobody, holding, turned_away, holding_in, KeepsCount}
use Rattle.work_permits.specs.Steps.{Looks}
use Rattle.work_permits.specs.Gates.{most_working, most_inside}

two_of_three_hold : holding_in (holding 2 ∷ nobody 2 ∷ holding 2 ∷ []) ≡ 2
two_of_three_hold = refl

keeps-all_out : KeepsCount 2 (record { words = 2 ∷ []; homes = []; views = holding 2 ∷ turned_away 2 ∷ holding 2 ∷ [] })
keeps-all_out = record { one = refl; out = refl; few = omega arith }

not_keeps-one_too_many : KeepsCount 2 (record { words = 3 ∷ []; homes = []; views = holding 2 ∷ holding 2 ∷ holding 2 ∷ [] }) → ⊥
not_keeps-one_too_many keeps = let few : 3 ≤ 2 = keeps.few in absurd (omega (arith, few))

looks-all_taken : Looks (step 0 0 0 0 none) (nobody 2, []) 2 (turned_away 2, [])
looks-all_taken = (omega arith, (λ is. refl), λ not. absurd (not refl))

not_looks-all_taken_of_one : Looks (step 0 0 0 0 none) (nobody 2, []) 1 (turned_away 2, []) → ⊥
not_looks-all_taken_of_one looks =
    let same : turned_away 2 ≡ nobody 2 = looks.2 (λ is. absurd (omega (arith, is))) in
    let e : true ≡ false = ap (λ (h : Holder). h.found_all) same in absurd (cc e)

working-of_eight : most_working 8 ≡ 4
working-of_eight = refl

working-of_one : most_working 1 ≡ 1
working-of_one = refl

inside-of_four : most_inside 4 ≡ 3
inside-of_four = refl

inside-of_eight : most_inside 8 ≡ 6
inside-of_eight = refl

inside-of_64 : most_inside 64 ≡ 48
inside-of_64 = refl

inside-of_one : most_inside 1 ≡ 1
inside-of_one = refl
