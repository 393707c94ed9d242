use Rattle.std.proofs.Common.{rules}
use Rattle.client_registry.proofs.TwiceRules.{twice_next}
use Rattle.client_registry.proofs.rules.redirects_twice.Goals as goal

pub loop-number-preserved : goal.loop-number-preserved
loop-number-preserved c =
    twice_next c.args.clients.now c.args.place c.args.uris.now c.loop-number.number c.at-uri.result.now c.loop-number.refusals c.note_twice.new.refusals _ c.at-uri.ensures
    (search rules) c.loop-number.invariant
