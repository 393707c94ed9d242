use Rattle.std.proofs.Common.{◌≡◌, ◌++◌, drop}
use Rattle.configuration_rows.specs.Refusals.{each_from}
use Rattle.client_registry.specs.Rules as spec
use Rattle.client_registry.proofs.subjects.judge_subjects.Given as goal

abbrev pub invariant-loop-place : goal.invariant-loop-place
invariant-loop-place l = l.refusals ++ each_from (λ n subject. spec.clash_at l.client l.users n (spec.text_place subject l.subjects)) l.place (drop l.place l.subjects) ≡ l.fn.refusals ++ spec.clashes l.client l.users l.subjects
