use Rattle.std.proofs.Common.{◌≡◌, drop}
use Rattle.sso_base.specs.Rows.{row_of}
use Rattle.sso_base.proofs.rows.find_row.Given as goal

-- the row is among those to come
abbrev pub invariant-loop-row : goal.invariant-loop-row
invariant-loop-row g l = row_of g.R.Named.name l.word (drop l.row-index l.rows) ≡ row_of g.R.Named.name l.word l.rows
