use Rattle.std.proofs.Common.{sym, ◌∙◌}
use Rattle.rp_core.proofs.KeptTables.{visits_named_by, visits_unended, named_somebody}
use Rattle.rp_core.proofs.keeping.end_accepted.Goals as goal

pub end_named-requires : goal.end_named-requires
end_named-requires c = named_somebody _ c.bytes_if-sub.result c.bytes_if-sid.result _ c.in-Some.claims.now c.requires.names c.in-Some.ensures c.bytes_if-sub.ensures c.bytes_if-sid.ensures

pub returns-in-Some : goal.returns-in-Some
returns-in-Some c = λ past.
    c.end_named.ensures.rows
    ∙ visits_named_by past c.args.pair.now c.args.tables.now c.in-Some.claims.now _ _ c.bytes_if-sub.ensures c.bytes_if-sid.ensures c.requires.none (sym c.in-Some.ensures)

pub returns-in_default : goal.returns-in_default
returns-in_default c = λ past. visits_unended past c.args.pair.now c.args.tables.now c.requires.none (sym c.in_default.ensures)
