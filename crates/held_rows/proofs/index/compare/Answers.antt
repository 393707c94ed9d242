use Rattle.std.proofs.Common.{◌≡◌, List, ℕ, Option, [], unwrap_or, Bor, ◌∙◌, ap}
use Rattle.held_rows.specs.Index.{key_in, row_at}
use Rattle.held_rows.proofs.Ranks.{tied_ranks, parted_ranks}
use Rattle.held_rows.proofs.index.compare.Goals.{in-Some, in-None}
use Rattle.held_rows.proofs.index.compare.Goals as goal

-- the bytes that were found are those of the slot
pub returns-in-Equal : goal.returns-in-Equal
returns-in-Equal g c =
    let there : Option (List ℕ) = key_in (g.R.Row.key c.args.by) (row_at c.args.slots.now) c.args.slot in
    let B : Option (List ℕ) → List ℕ = λ o. unwrap_or o [] in
    let found : c.match-key_at.found.now ≡ unwrap_or there [] = elim c.match-key_at.branch [
      | in-Some w ↦ (let e = w.in-Some.ensures in let i = w.found-is in ap (λ (f : Bor (List ℕ)). f.now) i ∙ ap B e)
      | in-None w ↦ (let e = w.in-None.ensures in let i = w.found-is in ap (λ (f : Bor (List ℕ)). f.now) i ∙ ap B e)
    ] in
    tied_ranks c.match-key_at.found.now (unwrap_or there []) c.args.key.now c.args.slot c.args.other found c.cmp.result c.cmp-in-Equal.result c.cmp.ensures c.in-Equal.is c.cmp-in-Equal.ensures

pub returns-in_default : goal.returns-in_default
returns-in_default g c =
    let there : Option (List ℕ) = key_in (g.R.Row.key c.args.by) (row_at c.args.slots.now) c.args.slot in
    let B : Option (List ℕ) → List ℕ = λ o. unwrap_or o [] in
    let found : c.match-key_at.found.now ≡ unwrap_or there [] = elim c.match-key_at.branch [
      | in-Some w ↦ (let e = w.in-Some.ensures in let i = w.found-is in ap (λ (f : Bor (List ℕ)). f.now) i ∙ ap B e)
      | in-None w ↦ (let e = w.in-None.ensures in let i = w.found-is in ap (λ (f : Bor (List ℕ)). f.now) i ∙ ap B e)
    ] in
    parted_ranks c.match-key_at.found.now (unwrap_or there []) c.args.key.now c.args.slot c.args.other found c.cmp.result c.cmp.ensures c.in_default.not-Equal
