use Rattle.std.proofs.Common.{List, ap, ◌∙◌}
use Rattle.sso_base.specs.Rows.{lives, live_rows}
use Rattle.oidc_words.specs.Lives.{access_life, family_life}
use Rattle.refresh_answer.specs.declared.rows.FamilyRow.{FamilyRow}
use Rattle.refresh_answer.specs.declared.rows.RefreshRow.{RefreshRow}
use Rattle.refresh_answer.specs.declared.rows.AccessRow.{AccessRow}
use Rattle.refresh_answer.specs.Rows.{access_begun}
use Rattle.refresh_rows.specs.declared.token_row.TokenRow.{TokenRow}
use Rattle.refresh_rows.specs.TokenRows.{refresh_row, refresh_rows, is_of}
use Rattle.refresh_rows.proofs.Lists.{map_filter}
use Rattle.refresh_rows.proofs.Books.{still_room, dropped_book, later_book}
use Rattle.refresh_rows.proofs.book.Book.turn_to.Goals as goal

pub drop_over-requires-clause-tokens_here : goal.drop_over-requires-clause-tokens_here
drop_over-requires-clause-tokens_here c = c.self.invariant.tokens_here

pub drop_over-requires-clause-accesses_here : goal.drop_over-requires-clause-accesses_here
drop_over-requires-clause-accesses_here c = c.self.invariant.accesses_here

pub invariant_of-self : goal.invariant_of-self
invariant_of-self c =
    let inside = c.self.inside in
    let dropped = c.drop_over.new in
    later_book dropped.families.rows dropped.tokens.rows dropped.accesses.rows c.drop_expired.new.accesses.rows inside.last c.args.at (rw (← c.self.view_is) at c.requires.order) c.drop_expired.ensures.rows
    (dropped_book inside.families.rows dropped.families.rows inside.tokens.rows dropped.tokens.rows inside.accesses.rows dropped.accesses.rows inside.last (λ (f : FamilyRow). lives family_life f.begun c.args.at)
    c.drop_over.ensures.families c.drop_over.ensures.tokens c.drop_over.ensures.accesses c.self.invariant)

pub returns-clause-tokens : goal.returns-clause-tokens
returns-clause-tokens c =
    let M = λ (l : List TokenRow). refresh_rows l in
    rw (← c.self.view_is)
    (ap M c.drop_over.ensures.tokens ∙ map_filter refresh_row (λ (t : RefreshRow). is_of c.drop_over.new.families.rows t.family) c.self.inside.tokens.rows)

pub returns-clause-accesses : goal.returns-clause-accesses
returns-clause-accesses c =
    let L = λ (l : List AccessRow). live_rows access_life access_begun c.args.at l in
    rw (← c.self.view_is) (c.drop_expired.ensures.rows ∙ ap L c.drop_over.ensures.accesses)

pub returns-clause-memory : goal.returns-clause-memory
returns-clause-memory c =
    let inside = c.self.inside in
    let dropped = c.drop_over.new in
    let memory = rw (← c.self.view_is) at c.requires.memory in
    let M = λ (l : List TokenRow). refresh_rows l in
    let tokens = ap M c.drop_over.ensures.tokens ∙ map_filter refresh_row (λ (t : RefreshRow). is_of dropped.families.rows t.family) inside.tokens.rows in
    record {
      families = still_room (λ (f : FamilyRow). lives family_life f.begun c.args.at) inside.families.rows dropped.families.rows inside.families.capacity dropped.families.capacity c.drop_over.ensures.families c.drop_over.ensures.family_room memory.families;
      tokens = still_room (λ (t : RefreshRow). is_of dropped.families.rows t.family) (refresh_rows inside.tokens.rows) (refresh_rows dropped.tokens.rows) inside.tokens.capacity dropped.tokens.capacity tokens c.drop_over.ensures.token_room memory.tokens;
      accesses = still_room (λ (x : AccessRow). lives access_life x.issued c.args.at) dropped.accesses.rows c.drop_expired.new.accesses.rows dropped.accesses.capacity c.drop_expired.new.accesses.capacity c.drop_expired.ensures.rows c.drop_expired.ensures.room
          (still_room (λ (x : AccessRow). is_of dropped.families.rows x.family) inside.accesses.rows dropped.accesses.rows inside.accesses.capacity dropped.accesses.capacity c.drop_over.ensures.accesses c.drop_over.ensures.access_room memory.accesses);
    }
