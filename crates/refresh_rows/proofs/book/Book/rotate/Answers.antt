use Rattle.std.proofs.Common.{◌<◌, ℕ, true, false, List, Option, Some, IsSome, refl, ap, sym, ◌∙◌, subst, arith}
use Rattle.sso_base.specs.Rows.{put}
use Rattle.refresh_answer.specs.declared.rows.RefreshRow.{RefreshRow}
use Rattle.refresh_answer.specs.Rows.{access_name, token_name}
use Rattle.refresh_rows.specs.declared.token_row.TokenRow.{TokenRow}
use Rattle.refresh_rows.specs.TokenRows.{held_name, held_since, held_token, refresh_row, refresh_rows}
use Rattle.refresh_rows.proofs.Lists.{map_put, map_long}
use Rattle.refresh_rows.proofs.Books.{absent_word, few_tokens, held_row, still_absent, put_late, few_of_accesses, rotated_book}
use Rattle.refresh_rows.proofs.book.Book.rotate.Goals as goal

pub retire-requires-clause-there : goal.retire-requires-clause-there
retire-requires-clause-there c =
    let held = held_row c.args.row.word c.self.inside.tokens.rows c.args.row (rw (← c.self.view_is) at c.requires.there) in
    let S = λ (o : Option TokenRow). IsSome o in
    subst S (sym held.1) refl

pub retire-requires-clause-latest : goal.retire-requires-clause-latest
retire-requires-clause-latest c = c.self.invariant.changed

pub issue-requires-clause-room : goal.issue-requires-clause-room
issue-requires-clause-room c =
    let L = λ (n : ℕ). n < c.self.inside.tokens.capacity in
    let room = subst L (map_long refresh_row c.self.inside.tokens.rows) (rw (← c.self.view_is) at c.requires.memory).tokens in
    let bound = c.retire.ensures.bound in
    let same = c.retire.ensures.room in
    omega (arith, room, bound, same)

pub issue-requires-clause-few : goal.issue-requires-clause-few
issue-requires-clause-few c =
    let few = few_tokens c.args.refresh c.self.inside.tokens.rows (rw (← c.self.view_is) at c.requires.room) in
    let bound = c.retire.ensures.bound in
    omega (arith, few, bound)

pub issue-requires-clause-unnamed : goal.issue-requires-clause-unnamed
issue-requires-clause-unnamed c =
    let inside = c.self.inside in
    let held = held_row c.args.row.word inside.tokens.rows c.args.row (rw (← c.self.view_is) at c.requires.there) in
    rw c.retire.ensures.rows
    (still_absent c.args.refresh (held_token c.args.row.word c.args.row.family false inside.last) held.0 inside.tokens.rows (absent_word c.args.refresh inside.tokens.rows (rw (← c.self.view_is) at c.requires.room)) held.1)

pub issue-requires-clause-latest : goal.issue-requires-clause-latest
issue-requires-clause-latest c =
    let inside = c.self.inside in
    rw c.retire.ensures.rows
    (put_late held_name held_since inside.last (held_token c.args.row.word c.args.row.family false inside.last) inside.tokens.rows refl c.self.invariant.changed)

pub put_access-requires-clause-room : goal.put_access-requires-clause-room
put_access-requires-clause-room c = (rw (← c.self.view_is) at c.requires.memory).accesses

pub put_access-requires-clause-few : goal.put_access-requires-clause-few
put_access-requires-clause-few c =
    let inside = c.self.inside in
    let few = few_tokens c.args.refresh inside.tokens.rows (rw (← c.self.view_is) at c.requires.room) in
    let low = few_of_accesses inside.families.rows inside.tokens.rows inside.accesses.rows inside.last c.self.invariant in
    omega (arith, few, low)

pub put_access-requires-clause-latest : goal.put_access-requires-clause-latest
put_access-requires-clause-latest c = c.self.invariant.issued

pub invariant_of-self : goal.invariant_of-self
invariant_of-self c =
    let inside = c.self.inside in
    let row = c.args.row in
    let held = held_row row.word inside.tokens.rows row (rw (← c.self.view_is) at c.requires.there) in
    let F = λ (r : RefreshRow). r.family in
    let I = λ (l : List TokenRow). put held_name (Some (held_token c.args.refresh row.family true inside.last)) l in
    let X = λ (n : ℕ). put access_name (Some (record { word = c.args.access; family = n; issued = inside.last })) inside.accesses.rows in
    rotated_book inside.families.rows inside.tokens.rows inside.accesses.rows inside.last c.self.invariant held.0 row.word c.args.refresh c.args.access row.family c.issue.new.tokens.rows c.put_access.new.accesses.rows
    c.know_tokens.ensures held.1 (ap F held.2) (absent_word c.args.refresh inside.tokens.rows (rw (← c.self.view_is) at c.requires.room)) (c.issue.ensures.rows ∙ ap I c.retire.ensures.rows) (c.put_access.ensures.rows ∙ ap X c.new.ensures)

pub returns-clause-tokens : goal.returns-clause-tokens
returns-clause-tokens c =
    let inside = c.self.inside in
    let row = c.args.row in
    let M = λ (l : List TokenRow). refresh_rows l in
    let I = λ (l : List TokenRow). put held_name (Some (held_token c.args.refresh row.family true inside.last)) l in
    let old = held_token row.word row.family false inside.last in
    let new = held_token c.args.refresh row.family true inside.last in
    let P = λ (l : List RefreshRow). put token_name (Some (refresh_row new)) l in
    rw (← c.self.view_is)
    (ap M (c.issue.ensures.rows ∙ ap I c.retire.ensures.rows) ∙ map_put refresh_row held_name token_name (λ t. refl) new (put held_name (Some old) inside.tokens.rows)
    ∙ ap P (map_put refresh_row held_name token_name (λ t. refl) old inside.tokens.rows))

pub returns-clause-accesses : goal.returns-clause-accesses
returns-clause-accesses c =
    let X = λ (n : ℕ). put access_name (Some (record { word = c.args.access; family = n; issued = c.self.inside.last })) c.self.inside.accesses.rows in
    rw (← c.self.view_is) (c.put_access.ensures.rows ∙ ap X c.new.ensures)
