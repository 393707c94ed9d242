use Rattle.std.proofs.Common.{◌≡◌, ◌++◌, map, drop}
use Rattle.httparse.specs.Spans.{header_bytes}
use Rattle.sso_http.specs.Fields.{values_of}
use Rattle.sso_http.proofs.fields.values.Given as goal

abbrev pub invariant-loop-span : goal.invariant-loop-span
invariant-loop-span l = map (λ w. w.now) l.values.items ++ values_of l.name (map (header_bytes l.bytes) (drop l.span-index l.spans)) ≡ values_of l.name (map (header_bytes l.bytes) l.spans)
