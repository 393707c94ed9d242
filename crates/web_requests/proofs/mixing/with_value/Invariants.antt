use Rattle.std.proofs.Common.{◌≡◌, ◌++◌, map, drop}
use Rattle.form_urlencoded.specs.Form.{pair_text}
use Rattle.web_requests.specs.Mixing.{with_value}
use Rattle.web_requests.proofs.mixing.with_value.Given as goal

-- the pairs so far, and those to come
abbrev pub invariant-loop-pair : goal.invariant-loop-pair
invariant-loop-pair l = map pair_text l.mixed.items ++ with_value l.name l.value (drop l.pair-index l.pairs) ≡ with_value l.name l.value l.pairs
