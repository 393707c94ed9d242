use Rattle.std.proofs.Common.{rules}
use Rattle.std.specs.Cmp.Lexicographic.{slice_cmp}
use Rattle.std.specs.Ordering.{nat_cmp}
use Rattle.std.proofs.lemmas.Fn.{always_returns_same}
use Rattle.held_rows.specs.Index.{rank, rank_in, row_at}
use Rattle.held_rows.proofs.Ranks.{searched}
use Rattle.held_rows.proofs.index.search.Goals as goal

pub returns : goal.returns
returns g c =
    let key = g.R.Row.key c.args.by in
    let row = row_at c.args.slots.now in
    let wanted = rank c.args.key.now c.args.slot in
    let facts = c.binary_search_by.ensures in
    let found = facts.position (λ s. slice_cmp nat_cmp (rank_in key row s) wanted) (always_returns_same _ _ _ (λ a r f called. (search rules, search rules))) in
    searched key row c.args.index.now.items wanted c.binary_search_by.result c.requires (rw c.args.index.now.ok.0 at facts.bound) found
