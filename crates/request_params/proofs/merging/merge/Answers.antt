use Rattle.request_params.specs.Merging.{request_merged, IsMerged, RefusesMerge}
use Rattle.request_params.specs.declared.no.AskNo.TheVariants.{NoMemory}
use Rattle.sso_base.proofs.Answering.{if_answered, only_memory, if_refused, is_refused}
use Rattle.request_params.proofs.MergeLaws.{merged-is, is-merged, merge_refused, refused_merge}
use Rattle.request_params.proofs.merging.merge.Goals as goal

pub returns-clause-merged : goal.returns-clause-merged
returns-clause-merged c =
    if_answered (request_merged c.args.outer.now c.args.inner.now) (λ p. IsMerged c.args.outer.now c.args.inner.now p) (merged-is c.args.outer.now c.args.inner.now) c.whole.result c.whole.ensures.answers

pub returns-clause-accepts : goal.returns-clause-accepts
returns-clause-accepts c = λ p m. only_memory NoMemory (request_merged c.args.outer.now c.args.inner.now) p (is-merged c.args.outer.now c.args.inner.now p m) c.whole.result c.whole.ensures.refuses

pub returns-clause-cause : goal.returns-clause-cause
returns-clause-cause c =
    if_refused NoMemory (request_merged c.args.outer.now c.args.inner.now) (RefusesMerge c.args.outer.now c.args.inner.now) (merge_refused c.args.outer.now c.args.inner.now) c.whole.result c.whole.ensures.refuses

pub returns-clause-refused : goal.returns-clause-refused
returns-clause-refused c = λ why r.
    is_refused NoMemory (request_merged c.args.outer.now c.args.inner.now) why (refused_merge c.args.outer.now c.args.inner.now why r) c.whole.result c.whole.ensures.answers c.whole.ensures.refuses
