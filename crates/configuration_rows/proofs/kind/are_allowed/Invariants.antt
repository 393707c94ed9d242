use Rattle.std.proofs.Common.{◌≡◌, drop}
use Rattle.std.specs.List.{list_all}
use Rattle.configuration_rows.specs.Kinds.{allows}
use Rattle.configuration_rows.proofs.kind.are_allowed.Given as goal

abbrev pub invariant-loop-byte : goal.invariant-loop-byte
invariant-loop-byte l = list_all (allows l.alphabet) (drop l.byte-index l.bytes) ≡ list_all (allows l.alphabet) l.bytes
