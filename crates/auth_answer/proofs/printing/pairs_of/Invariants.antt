use Rattle.std.proofs.Common.{◌≡◌, ◌++◌, map, drop}
use Rattle.form_urlencoded.specs.Form.{pair_text}
use Rattle.auth_answer.specs.Printing.{pairs_of}
use Rattle.auth_answer.specs.Params.{param_text}
use Rattle.auth_answer.proofs.printing.pairs_of.Given as goal

-- the pairs so far, and those to come
abbrev pub invariant-loop-param : goal.invariant-loop-param
invariant-loop-param l = map pair_text l.pairs.items ++ pairs_of (map param_text (drop l.param-index l.params)) ≡ pairs_of (map param_text l.params)
