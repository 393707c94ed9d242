use Rattle.std.proofs.Common.{◌≡◌, ◌++◌, map, drop}
use Rattle.form_urlencoded.specs.Form.{pair_text}
use Rattle.request_params.specs.Printing.{pairs_named}
use Rattle.request_params.proofs.printing.pairs.Given as goal

-- the pairs so far, and those to come
abbrev pub invariant-loop-name : goal.invariant-loop-name
invariant-loop-name l = map pair_text l.pairs.items ++ pairs_named l.params (drop l.name-index l.names) ≡ pairs_named l.params l.names
