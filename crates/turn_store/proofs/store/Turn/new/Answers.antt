use Rattle.std.proofs.Common.{◌∙◌, sym, ap, rules, slice_index_or}
use Rattle.turn_store.proofs.Steps.{opens}
use Rattle.turn_store.proofs.Dealing.{dealt_pass, dealt_nothing, legal_start}
use Rattle.turn_store.proofs.store.Turn.new.Goals as goal

pub new-requires : goal.new-requires
new-requires g c =
    opens g.C.Core.history g.C.Core.setup g.C.Core.is_legal c.of.result.value c.from.result c.args.core c.push.new.self.items c.requires.empty (ap g.C.Core.setup (sym c.of.ensures)) c.count-count.ensures.legal (search rules)

pub returns-clause-passes : goal.returns-clause-passes
returns-clause-passes g c k d lt =
    dealt_pass g.C.Core.setup g.C.Core.is_legal _ _
    (legal_start g.C.Core.setup g.C.Core.is_legal g.C.Core.history c.args.core c.in-Ok.table.shared.key.core.value c.count-count.ensures.legal c.requires.empty (ap (λ z. z.core.value) c.in-Ok.ensures.ok.5 ∙ c.of.ensures))
    (c.deal-dealt.ensures.dealt k d lt)

pub returns-clause-fresh : goal.returns-clause-fresh
returns-clause-fresh g c k d lt = dealt_nothing _ _ (slice_index_or c.deal-dealt.result.items k d) (c.deal-dealt.ensures.dealt k d lt)
