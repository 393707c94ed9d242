use Rattle.std.proofs.Common.{◌≡◌, ℕ, ◌<◌, true, length}
use Rattle.cookie_jars.specs.JarMaps.{jar_in, has_jar, jars_at}
use Rattle.cookie_jars.proofs.jars.prepare_all.Given as goal

abbrev pub invariant-loop-n : goal.invariant-loop-n
invariant-loop-n l = record {
  all : l.n-end ≡ length l.maps.items;
  count : length l.maps.items ≡ length l.fn.maps.items;
  same : (k other : ℕ) → jar_in (jars_at l.maps.items k) other ≡ jar_in (jars_at l.fn.maps.items k) other;
  room : (k : ℕ) → k < l.n → has_jar (jars_at l.maps.items k) l.browser ≡ true;
}
