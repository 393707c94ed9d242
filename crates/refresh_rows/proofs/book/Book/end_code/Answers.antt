use Rattle.std.proofs.Common.{not, List, ap, ◌∙◌}
use Rattle.refresh_answer.specs.declared.rows.FamilyRow.{FamilyRow}
use Rattle.refresh_answer.specs.declared.rows.RefreshRow.{RefreshRow}
use Rattle.refresh_answer.specs.declared.rows.AccessRow.{AccessRow}
use Rattle.refresh_rows.specs.declared.token_row.TokenRow.{TokenRow}
use Rattle.refresh_rows.specs.TokenRows.{refresh_row, refresh_rows, is_of}
use Rattle.refresh_rows.specs.Booked.{is_of_code}
use Rattle.refresh_rows.proofs.Lists.{map_filter}
use Rattle.refresh_rows.proofs.Books.{still_room, dropped_book}
use Rattle.refresh_rows.proofs.book.Book.end_code.Goals as goal

pub drop_passing-requires-clause-tokens_here : goal.drop_passing-requires-clause-tokens_here
drop_passing-requires-clause-tokens_here c = c.self.invariant.tokens_here

pub drop_passing-requires-clause-accesses_here : goal.drop_passing-requires-clause-accesses_here
drop_passing-requires-clause-accesses_here c = c.self.invariant.accesses_here

pub invariant_of-self : goal.invariant_of-self
invariant_of-self c =
    let inside = c.self.inside in
    let dropped = c.drop_passing.new in
    dropped_book inside.families.rows dropped.families.rows inside.tokens.rows dropped.tokens.rows inside.accesses.rows dropped.accesses.rows inside.last (λ (f : FamilyRow). not (is_of_code c.args.code c.args.client f))
    c.drop_passing.ensures.families c.drop_passing.ensures.tokens c.drop_passing.ensures.accesses c.self.invariant

pub returns-clause-families : goal.returns-clause-families
returns-clause-families c = rw (← c.self.view_is) c.drop_passing.ensures.families

pub returns-clause-tokens : goal.returns-clause-tokens
returns-clause-tokens c =
    let M = λ (l : List TokenRow). refresh_rows l in
    rw (← c.self.view_is)
    (ap M c.drop_passing.ensures.tokens ∙ map_filter refresh_row (λ (t : RefreshRow). is_of c.drop_passing.new.families.rows t.family) c.self.inside.tokens.rows)

pub returns-clause-memory : goal.returns-clause-memory
returns-clause-memory c =
    let inside = c.self.inside in
    let dropped = c.drop_passing.new in
    let memory = rw (← c.self.view_is) at c.requires.memory in
    let M = λ (l : List TokenRow). refresh_rows l in
    let tokens = ap M c.drop_passing.ensures.tokens ∙ map_filter refresh_row (λ (t : RefreshRow). is_of dropped.families.rows t.family) inside.tokens.rows in
    record {
      families = still_room (λ (f : FamilyRow). not (is_of_code c.args.code c.args.client f)) inside.families.rows dropped.families.rows inside.families.capacity dropped.families.capacity c.drop_passing.ensures.families c.drop_passing.ensures.family_room memory.families;
      tokens = still_room (λ (t : RefreshRow). is_of dropped.families.rows t.family) (refresh_rows inside.tokens.rows) (refresh_rows dropped.tokens.rows) inside.tokens.capacity dropped.tokens.capacity tokens c.drop_passing.ensures.token_room memory.tokens;
      accesses = still_room (λ (x : AccessRow). is_of dropped.families.rows x.family) inside.accesses.rows dropped.accesses.rows inside.accesses.capacity dropped.accesses.capacity c.drop_passing.ensures.accesses c.drop_passing.ensures.access_room memory.accesses;
    }
