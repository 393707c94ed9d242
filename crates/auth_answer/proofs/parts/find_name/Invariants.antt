use Rattle.std.proofs.Common.{◌≡◌, drop}
use Rattle.std.specs.List.{find}
use Rattle.std.specs.Str.{bytes_eq}
use Rattle.auth_answer.specs.Parts.{part_text}
use Rattle.auth_answer.proofs.parts.find_name.Given as goal

-- what the names to come give is what all give
abbrev pub invariant-loop-name : goal.invariant-loop-name
invariant-loop-name l = find (λ name. bytes_eq l.text (part_text name)) (drop l.name-index l.names) ≡ find (λ name. bytes_eq l.text (part_text name)) l.names
