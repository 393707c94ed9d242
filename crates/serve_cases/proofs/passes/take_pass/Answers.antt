use Rattle.std.proofs.Common.{ap}
use Rattle.std.specs.Prelude.{map}
use Rattle.turn_store.specs.Passes.{IsPassOf, number_of}
use Rattle.turn_store.proofs.Ending.{removed}
use Rattle.turn_store.proofs.Moving.{all_removed}
use Rattle.serve_cases.proofs.passes.take_pass.Goals as goal

pub returns-clause-pass : goal.returns-clause-pass
returns-clause-pass g c =
    let both = all_removed (IsPassOf g.C.Core.setup g.C.Core.is_legal c.args.turn.now) c.args.passes.now.items c.remove.new.self.items c.remove.result c.requires.all c.requires.some c.remove.ensures.value c.remove.ensures.items in
    both.0

pub returns-clause-all : goal.returns-clause-all
returns-clause-all g c =
    let both = all_removed (IsPassOf g.C.Core.setup g.C.Core.is_legal c.args.turn.now) c.args.passes.now.items c.remove.new.self.items c.remove.result c.requires.all c.requires.some c.remove.ensures.value c.remove.ensures.items in
    both.1

pub returns-clause-numbers : goal.returns-clause-numbers
returns-clause-numbers g c =
    ap (λ ps. map number_of ps) (removed c.args.passes.now.items c.remove.new.self.items c.remove.result c.requires.some c.remove.ensures.value c.remove.ensures.items)
