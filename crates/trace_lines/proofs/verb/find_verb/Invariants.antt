use Rattle.std.proofs.Common.{◌≡◌, drop}
use Rattle.std.specs.List.{find}
use Rattle.std.specs.Str.{bytes_eq}
use Rattle.trace_lines.specs.Verbs.{verb_text}
use Rattle.trace_lines.proofs.verb.find_verb.Given as goal

-- what the kinds to come give is what all give
abbrev pub invariant-loop-verb : goal.invariant-loop-verb
invariant-loop-verb l = find (λ verb. bytes_eq (verb_text verb) l.word) (drop l.verb-index l.verbs) ≡ find (λ verb. bytes_eq (verb_text verb) l.word) l.verbs
