use Rattle.std.proofs.Common.{◌≡◌, drop}
use Rattle.std.specs.List.{find}
use Rattle.std.specs.Str.{bytes_eq}
use Rattle.request_params.specs.Names.{name_text}
use Rattle.request_params.proofs.name.find_name.Given as goal

-- what the names to come give is what all give
abbrev pub invariant-loop-name : goal.invariant-loop-name
invariant-loop-name l = find (λ name. bytes_eq (name_text name) l.text) (drop l.name-index l.names) ≡ find (λ name. bytes_eq (name_text name) l.text) l.names
