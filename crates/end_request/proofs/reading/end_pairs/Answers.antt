use Rattle.std.proofs.Common.{◌∙◌, rules, filter, List, ap}
use Rattle.std.proofs.lemmas.Fn.{filter_same}
use Rattle.request_params.specs.Form.{Pair}
use Rattle.end_request.specs.Ending as spec
use Rattle.end_request.proofs.reading.end_pairs.Goals as goal

pub returns : goal.returns
returns c =
    let F : List Pair → List Pair = λ l. filter spec.counts l in
    filter_same _ spec.counts _ (λ x b f' k. search rules) _ _ c.retain.ensures.filtered ∙ ap F c.in_ok-pairs.ensures
