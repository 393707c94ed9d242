use Rattle.std.proofs.Common.{◌≡◌, ℕ, length}
use Rattle.sso_places.specs.Cookies.{no_jar}
use Rattle.cookie_jars.specs.JarMaps.{jar_in, jars_at}
use Rattle.cookie_jars.proofs.jars.Jars.new.Given as goal

abbrev pub invariant-loop : goal.invariant-loop
invariant-loop l = record {
  count : length l.maps.items ≡ l.counter;
  empty : (n browser : ℕ) → jar_in (jars_at l.maps.items n) browser ≡ no_jar;
}
