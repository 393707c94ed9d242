use Rattle.std.proofs.Common.{◌≡◌, nat_le, ap, ◌∙◌, arith}
use Rattle.sso_base.specs.Words.{Word}
use Rattle.sso_base.specs.Rows.{without}
use Rattle.sso_base.proofs.RowLaws.{row_of-without_same}
use Rattle.held_rows.proofs.Kept.{all_without}
use Rattle.refresh_answer.specs.declared.rows.AccessRow.{AccessRow}
use Rattle.refresh_answer.specs.Rows.{access_name}
use Rattle.refresh_rows.proofs.adding.put_access.Goals as goal

pub add-requires-clause-reserved : goal.add-requires-clause-reserved
add-requires-clause-reserved c =
    let bound = c.remove.ensures.bound in
    let capacity = ap (λ x. x.capacity) c.remove.ensures.rows in
    let room = c.requires.room in
    omega (arith, bound, capacity, room)

pub add-requires-clause-few : goal.add-requires-clause-few
add-requires-clause-few c =
    let bound = c.remove.ensures.bound in
    let few = c.requires.few in
    omega (arith, bound, few)

pub add-requires-clause-unnamed : goal.add-requires-clause-unnamed
add-requires-clause-unnamed c =
    let W = λ (w : Word). without access_name w c.args.accesses.now.rows in
    let left : c.remove.new.self.rows ≡ without access_name c.args.row.word c.args.accesses.now.rows = ap (λ x. x.rows) c.remove.ensures.rows ∙ ap W c.as_bytes.ensures in
    rw left (row_of-without_same access_name c.args.row.word c.args.accesses.now.rows)

pub add-requires-clause-latest : goal.add-requires-clause-latest
add-requires-clause-latest c =
    let W = λ (w : Word). without access_name w c.args.accesses.now.rows in
    let left : c.remove.new.self.rows ≡ without access_name c.args.row.word c.args.accesses.now.rows = ap (λ x. x.rows) c.remove.ensures.rows ∙ ap W c.as_bytes.ensures in
    rw left (all_without (λ (x : AccessRow). nat_le x.issued c.args.row.issued) access_name c.args.row.word c.args.accesses.now.rows c.requires.latest)

pub returns-clause-rows : goal.returns-clause-rows
returns-clause-rows c =
    let W = λ (w : Word). without access_name w c.args.accesses.now.rows in
    let left : c.remove.new.self.rows ≡ without access_name c.args.row.word c.args.accesses.now.rows = ap (λ x. x.rows) c.remove.ensures.rows ∙ ap W c.as_bytes.ensures in
    rw (c.add.ensures, left)
