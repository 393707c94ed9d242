use Rattle.std.proofs.Common.{ap, sym, ◌∙◌, length}
use Rattle.std.proofs.lemmas.List.{length-reverse}
use Rattle.core_stack.proofs.Merging.{merged_length}
use Rattle.refresh_answer.specs.Around.{around, own_pair}
use Rattle.refresh_book.proofs.refresh_core.RefreshCore.place.Goals as goal

pub returns : goal.returns
returns g c =
    c.count.ensures ∙ merged_length around own_pair c.self.inside.kept.kept (g.P.Core.history c.self.inside.inner) c.self.invariant.1.count ∙ ap (λ x. length x.history) c.self.view_is
    ∙ sym (length-reverse c.args.self.now.history)
