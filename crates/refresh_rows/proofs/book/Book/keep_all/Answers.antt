use Rattle.std.proofs.Common.{true, List, ap, sym, ◌∙◌}
use Rattle.refresh_answer.specs.declared.rows.FamilyRow.{FamilyRow}
use Rattle.refresh_answer.specs.declared.rows.RefreshRow.{RefreshRow}
use Rattle.refresh_answer.specs.declared.rows.AccessRow.{AccessRow}
use Rattle.refresh_rows.specs.declared.token_row.TokenRow.{TokenRow}
use Rattle.refresh_rows.specs.TokenRows.{refresh_row, refresh_rows, is_of}
use Rattle.refresh_rows.proofs.Lists.{filter_all, map_filter, always}
use Rattle.refresh_rows.proofs.book.Book.keep_all.Goals as goal

pub returns-clause-families : goal.returns-clause-families
returns-clause-families c =
    let fs = c.self.inside.families.rows in
    rw (← c.self.view_is) (sym (filter_all (λ (f : FamilyRow). true) fs (always fs)))

pub returns-clause-tokens : goal.returns-clause-tokens
returns-clause-tokens c =
    let fs = c.self.inside.families.rows in
    let ts = c.self.inside.tokens.rows in
    let M = λ (l : List TokenRow). refresh_rows l in
    rw (← c.self.view_is)
    (sym (ap M (filter_all (λ (t : TokenRow). is_of fs t.family) ts c.self.invariant.tokens_here)) ∙ map_filter refresh_row (λ (t : RefreshRow). is_of fs t.family) ts)

pub returns-clause-accesses : goal.returns-clause-accesses
returns-clause-accesses c =
    let fs = c.self.inside.families.rows in
    rw (← c.self.view_is) (sym (filter_all (λ (x : AccessRow). is_of fs x.family) c.self.inside.accesses.rows c.self.invariant.accesses_here))
