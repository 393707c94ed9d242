-- Maps of jars after one of them was changed.
use Rattle.std.proofs.Common.{◌≡◌, ◌≢◌, ℕ, ◌+◌, ◌<◌, ◌≤◌, ◌==◌, Bool, true, false, cond, List, [], length, Option, Some, unwrap_or, inl, inr, sym, ap, ◌∙◌, subst, eq-eqb, ne_eqb, arith}
use Rattle.std.specs.Cmp.{unsigned_tied}
use Rattle.std.specs.List.{slice_set}
use Rattle.std.proofs.lemmas.Bool.{eqb-true, eqb-false}
use Rattle.std.proofs.lemmas.List.{get_or-set_same, get_or-set_other, length-set}
use Rattle.sso_base.proofs.RowLaws.{bool_cases}
use Rattle.sso_places.specs.declared.types.Jar.{Jar}
use Rattle.sso_places.specs.Cookies.{no_jar}
use Rattle.cookie_jars.specs.JarMaps.{found_in, jar_in, IsPut, jars_at}

abbrev pub JarList : Type 0
JarList = List (ℕ × Jar)

-- ---- a map after the jar of a browser was put into it

pub put_jars : (before after : JarList) (browser : ℕ) (jar : Jar) → IsPut before after browser jar → (other : ℕ) → jar_in after other ≡ cond (other == browser) jar (jar_in before other)
put_jars before after browser jar is other =
    let J : Option Jar → Jar = λ o. unwrap_or o no_jar in
    let C : Bool → Option Jar = λ b. cond b (Some jar) (found_in before other) in
    let D : Bool → Jar = λ b. cond b jar (jar_in before other) in
    elim (bool_cases (other == browser)) [
      | inl e ↦
          (let same : (browser == other) ≡ true = eq-eqb browser other (sym (eqb-true other browser e)) in
          ap J (is other ∙ ap C (unsigned_tied browser other ∙ same)) ∙ sym (ap D e))
      | inr e ↦
          (let apart : (browser == other) ≡ false = ne_eqb browser other (λ s. eqb-false other browser e (sym s)) in
          ap J (is other ∙ ap C (unsigned_tied browser other ∙ apart)) ∙ sym (ap D e))
    ]

-- ---- maps by number, the first of them after a theft

at_same : (maps : List JarList) (n : ℕ) (m : JarList) → n < length maps → jars_at (slice_set maps n m) n ≡ m
at_same maps n m low = get_or-set_same maps n m [] low

at_other : (maps : List JarList) (n k : ℕ) (m : JarList) → (k ≢ n) → jars_at (slice_set maps n m) k ≡ jars_at maps k
at_other maps n k m other = get_or-set_other maps n k m [] other

abbrev pub StolenIn : JarList → JarList → ℕ → ℕ → Type 0
StolenIn before after thief owner = (browser : ℕ) → jar_in after browser ≡ cond (browser == thief) (jar_in before owner) (jar_in before browser)

-- the maps before a number are after the theft, and the others are as they were
pub record AreStolen (before after : List JarList) (count thief owner : ℕ) : Type 0 where
  pub long : length after ≡ length before
  pub done : (n : ℕ) → n < count → StolenIn (jars_at before n) (jars_at after n) thief owner
  pub rest : (n : ℕ) → count ≤ n → jars_at after n ≡ jars_at before n

pub stolen_more : (before after : List JarList) (n thief owner : ℕ) (m : JarList) → n < length after → StolenIn (jars_at after n) m thief owner → AreStolen before after n thief owner → AreStolen before (slice_set after n m) (n + 1) thief owner
stolen_more before after n thief owner m low here is =
    record {
      long = length-set after n m ∙ is.long;
      done = λ k below. elim (bool_cases (k == n)) [
        | inl e ↦
            (let S : JarList → JarList → Type 0 = λ a b. StolenIn a b thief owner in
            let was : jars_at after n ≡ jars_at before n = is.rest n (omega arith) in
            let P : JarList → Type 0 = λ a. S a m in
            let Q : JarList → Type 0 = λ b. S (jars_at before n) b in
            let N : ℕ → Type 0 = λ i. S (jars_at before i) (jars_at (slice_set after n m) i) in
            subst N (sym (eqb-true k n e)) (subst Q (sym (at_same after n m low)) (subst P was here)))
        | inr e ↦
            (let apart : k ≢ n = eqb-false k n e in
            let earlier : k < n = omega (arith, below, apart) in
            let Q : JarList → Type 0 = λ b. StolenIn (jars_at before k) b thief owner in
            subst Q (sym (at_other after n k m apart)) (is.done k earlier))
      ];
      rest = λ k high.
          (let apart : k ≢ n = λ same. omega (arith, high, same) in
          at_other after n k m apart ∙ is.rest k (omega (arith, high)));
    }
