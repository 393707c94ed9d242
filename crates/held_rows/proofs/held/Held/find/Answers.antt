use Rattle.std.proofs.Common.{Option, IfSome, sym, ◌∙◌, subst}
use Rattle.held_rows.specs.Index.{stored_rows}
use Rattle.held_rows.proofs.HeldLaws.{row_has}
use Rattle.held_rows.proofs.held.Held.find.Goals as goal

pub returns-in-Some-clause-sound : goal.returns-in-Some-clause-sound
returns-in-Some-clause-sound g c =
    let S : Option g.row.R.Denot → Type 0 = λ o. IfSome o g.R.Row.IsSound in
    subst S (sym (c.row_in.ensures ∙ c.in-Some.ensures.some.1)) (row_has g.R.Row.name g.R.Row.IsSound c.args.name.now (stored_rows c.self.inside.stored) c.self.invariant.held.sound)
