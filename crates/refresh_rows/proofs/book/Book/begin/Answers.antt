use Rattle.std.proofs.Common.{◌≡◌, ◌<◌, ℕ, true, List, Some, refl, ap, sym, ◌∙◌, subst, arith}
use Rattle.sso_base.specs.Rows.{put}
use Rattle.held_rows.specs.Held.{none_after}
use Rattle.refresh_answer.specs.Rows.{family_begun, token_name}
use Rattle.refresh_rows.specs.declared.token_row.TokenRow.{TokenRow}
use Rattle.refresh_rows.specs.TokenRows.{held_name, held_token, refresh_row, refresh_rows}
use Rattle.refresh_rows.proofs.Keys.{place_found}
use Rattle.refresh_rows.proofs.Lists.{map_put, map_long}
use Rattle.refresh_rows.proofs.Books.{absent_word, few_tokens, few_of_families, begun_book}
use Rattle.refresh_rows.proofs.book.Book.begin.Goals as goal

pub add-requires-clause-reserved : goal.add-requires-clause-reserved
add-requires-clause-reserved c = (rw (← c.self.view_is) at c.requires.memory).families

pub add-requires-clause-few : goal.add-requires-clause-few
add-requires-clause-few c =
    let inside = c.self.inside in
    let room = rw (← c.self.view_is) at c.requires.room in
    let few = few_tokens c.args.word inside.tokens.rows room in
    let low = few_of_families inside.families.rows inside.tokens.rows inside.accesses.rows inside.last c.self.invariant in
    omega (arith, few, low)

pub add-requires-clause-unnamed : goal.add-requires-clause-unnamed
add-requires-clause-unnamed c =
    place_found c.args.family.by c.self.inside.families.rows c.number-place.ensures.wide c.know_families.ensures ∙ (rw (← c.self.view_is) at c.requires.unnamed)

pub add-requires-clause-latest : goal.add-requires-clause-latest
add-requires-clause-latest c =
    let L = λ (n : ℕ). none_after family_begun n c.self.inside.families.rows ≡ true in
    subst L (sym (rw (← c.self.view_is) at c.requires.begun)) c.self.invariant.begun

pub add-requires-clause-sound : goal.add-requires-clause-sound
add-requires-clause-sound c = c.number-place.ensures.wide

pub issue-requires-clause-room : goal.issue-requires-clause-room
issue-requires-clause-room c =
    let L = λ (n : ℕ). n < c.self.inside.tokens.capacity in
    subst L (map_long refresh_row c.self.inside.tokens.rows) (rw (← c.self.view_is) at c.requires.memory).tokens

pub issue-requires-clause-few : goal.issue-requires-clause-few
issue-requires-clause-few c = few_tokens c.args.word c.self.inside.tokens.rows (rw (← c.self.view_is) at c.requires.room)

pub issue-requires-clause-unnamed : goal.issue-requires-clause-unnamed
issue-requires-clause-unnamed c = absent_word c.args.word c.self.inside.tokens.rows (rw (← c.self.view_is) at c.requires.room)

pub issue-requires-clause-latest : goal.issue-requires-clause-latest
issue-requires-clause-latest c = c.self.invariant.changed

pub invariant_of-self : goal.invariant_of-self
invariant_of-self c =
    let inside = c.self.inside in
    let room = rw (← c.self.view_is) at c.requires.room in
    let T = λ (n : ℕ). put held_name (Some (held_token c.args.word n true inside.last)) inside.tokens.rows in
    begun_book inside.families.rows inside.tokens.rows inside.accesses.rows inside.last c.self.invariant c.args.family c.args.word c.add.new.self.rows c.issue.new.tokens.rows
    (rw (← c.self.view_is) at c.requires.begun) (absent_word c.args.word inside.tokens.rows room) (ap (λ x. x.rows) c.add.ensures) (c.issue.ensures.rows ∙ ap T c.number-place.ensures.value)

pub returns-clause-tokens : goal.returns-clause-tokens
returns-clause-tokens c =
    let inside = c.self.inside in
    let M = λ (l : List TokenRow). refresh_rows l in
    let T = λ (n : ℕ). put held_name (Some (held_token c.args.word n true inside.last)) inside.tokens.rows in
    rw (← c.self.view_is)
    (ap M (c.issue.ensures.rows ∙ ap T c.number-place.ensures.value) ∙ map_put refresh_row held_name token_name (λ t. refl) (held_token c.args.word c.args.family.by true inside.last) inside.tokens.rows)
