use Rattle.std.proofs.Common.{◌≡◌, map, drop}
use Rattle.std.specs.List.{list_any}
use Rattle.toml.specs.View.{view}
use Rattle.configuration_rows.specs.Rows.{is_apart}
use Rattle.configuration_rows.proofs.logout_rule.is_apart_from_one.Given as goal

abbrev pub invariant-loop-party : goal.invariant-loop-party
invariant-loop-party l = list_any (is_apart l.id l.url) (map view (drop l.party-index l.parties)) ≡ list_any (is_apart l.id l.url) (map view l.parties)
