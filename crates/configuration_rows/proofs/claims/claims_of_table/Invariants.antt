use Rattle.std.proofs.Common.{◌≡◌}
use Rattle.toml.specs.View.{members_view}
use Rattle.serde_json.specs.Data.{no_members}
use Rattle.claim_set.specs.Fitting.{ClaimsFit}
use Rattle.configuration_rows.specs.Claims.{claims_onto}
use Rattle.configuration_rows.proofs.claims.claims_of_table.Given as goal

-- what the names to come make of the claims so far, which fit
abbrev pub invariant-loop-name : goal.invariant-loop-name
invariant-loop-name l = record {
  value : claims_onto (members_view l.name-iterator) l.claims ≡ claims_onto (members_view l.table.entries) no_members;
  fits : ClaimsFit l.claims;
}
