use Rattle.std.proofs.Common.{◌≡◌, ◌≤◌, ◌+◌, drop}
use Rattle.op_request.specs.PostedForms.{count}
use Rattle.rp_signout.proofs.preparing.count.Given as goal

-- those counted so far and those to come are all
abbrev pub invariant-loop-field : goal.invariant-loop-field
invariant-loop-field l = record { all : l.count + count l.name (drop l.field-index l.fields) ≡ count l.name l.fields; few : l.count ≤ l.field-index }
