use Rattle.std.proofs.Common.{◌≡◌, drop}
use Rattle.configuration_rows.specs.Kinds.{are_urls}
use Rattle.end_request.proofs.returning.are_all_urls.Given as goal

abbrev pub invariant-loop-text : goal.invariant-loop-text
invariant-loop-text l = are_urls (drop l.text-index l.texts) ≡ are_urls l.texts
