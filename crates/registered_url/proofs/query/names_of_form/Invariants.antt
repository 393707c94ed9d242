use Rattle.std.proofs.Common.{◌≡◌, ◌++◌, map}
use Rattle.form_urlencoded.specs.Parse.{owned_pairs_left}
use Rattle.registered_url.specs.Query.{form_names, pair_name}
use Rattle.registered_url.proofs.query.names_of_form.Given as goal

-- the names so far, and those to come
abbrev pub invariant-loop-pair : goal.invariant-loop-pair
invariant-loop-pair l = l.names ++ map pair_name (owned_pairs_left l.pair-iterator) ≡ form_names l.form
