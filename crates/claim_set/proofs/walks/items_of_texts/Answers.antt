use Rattle.std.proofs.Common.{arith, sym}
use Rattle.std.proofs.lemmas.Option.{get_or_from_slice_get}
use Rattle.claim_set.proofs.Texts.{one_more_text}
use Rattle.claim_set.proofs.walks.items_of_texts.Goals as goal

pub loop-i-preserved : goal.loop-i-preserved
loop-i-preserved c =
    one_more_text c.loop-i.items.items c.push.new.self.items c.args.texts.now c.in_ok-try_from_str.field-0 c.at.result.now c.loop-i.i (omega arith)
    c.loop-i.invariant (sym (get_or_from_slice_get c.args.texts.now c.loop-i.i c.at.result.now c.at.result.now c.at.ensures)) c.in_ok-try_from_str.ensures c.in_ok-push.ensures.items
