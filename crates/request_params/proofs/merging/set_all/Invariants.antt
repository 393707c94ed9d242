use Rattle.std.proofs.Common.{◌≡◌, drop}
use Rattle.std.specs.Option.{option_or}
use Rattle.request_params.specs.Names.{param_of}
use Rattle.request_params.specs.AllNames.{with_all}
use Rattle.request_params.proofs.merging.set_all.Given as goal

-- setting those to come gives what setting all gives
abbrev pub invariant-loop-name : goal.invariant-loop-name
invariant-loop-name l =
    with_all (λ name. option_or (param_of name l.inner) (param_of name l.outer)) (drop l.name-index l.names) l.params
    ≡ with_all (λ name. option_or (param_of name l.inner) (param_of name l.outer)) l.names l.fn.params
