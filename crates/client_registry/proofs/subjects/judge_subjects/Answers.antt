use Rattle.std.proofs.Common.{rules}
use Rattle.client_registry.specs.Rules.{clash_at, text_place}
use Rattle.client_registry.proofs.TwiceRules.{each_next}
use Rattle.client_registry.proofs.subjects.judge_subjects.Goals as goal

pub loop-place-preserved : goal.loop-place-preserved
loop-place-preserved c =
    each_next (λ n subject. clash_at c.args.client.now c.args.users.now n (text_place subject c.args.subjects.now)) c.args.subjects.now c.loop-place.place c.at.result.now c.loop-place.refusals c.note_clash.new.refusals _ c.at.ensures
    (search rules) c.loop-place.invariant
