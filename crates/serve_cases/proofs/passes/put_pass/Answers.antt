use Rattle.turn_store.specs.Passes.{IsPassOf}
use Rattle.turn_store.proofs.Moving.{all_pushed, numbers_pushed}
use Rattle.serve_cases.proofs.Told.{told_as}
use Rattle.serve_cases.proofs.passes.put_pass.Goals as goal

pub returns-clause-all : goal.returns-clause-all
returns-clause-all g c =
    all_pushed (IsPassOf g.C.Core.setup g.C.Core.is_legal c.args.turn.now) _ c.args.passes.now.items c.push.new.self.items c.args.pass c.requires.all c.requires.pass c.push.ensures.items

pub returns-clause-numbers : goal.returns-clause-numbers
returns-clause-numbers g c =
    told_as _ _ c.is_ok.result _ c.is_ok.ensures.value (numbers_pushed _ c.args.passes.now.items c.push.new.self.items c.args.pass c.push.ensures.items)
