-- The newest kept place, which is the last in the list, is indexed.
use Rattle.std.proofs.Common.{◌≡◌, ℕ, suc, ◌-◌, List, [], ◌∷◌, ◌++◌, length, reverse, slice_get, Some, None, refl, sym, ap, ◌∙◌, subst, arith, length-append}
use Rattle.std.specs.List.{AllByRecursion}
use Rattle.std.proofs.lemmas.List.{length-map, length-reverse, reverse-append}
use Rattle.std.proofs.lemmas.Option.{same_Some}
use Rattle.client_registry.specs.Configuration.{Configuration}
use Rattle.running_world.specs.declared.foreknown.Foreknown.{Foreknown}
use Rattle.running_world.specs.declared.kept.Kept.{Kept}
use Rattle.running_world.specs.declared.noting.Index.{Index}
use Rattle.running_world.specs.Indexed.{IsIndexed, IsBehind}
use Rattle.running_world.specs.Noting.{IsNoted, IsPartlyNoted}
use Rattle.running_world.specs.Running.{kept_place, places_of}
use Rattle.running_world.specs.Whole.{IsWhole}
use Rattle.running_world.proofs.Indexing.{index_noted, index_partly_noted}

-- a list has a last element
abbrev pub EndsIn : {X : Type 0} → List X → X → Type 0
EndsIn {X} xs x = (front : List X) × (xs ≡ front ++ x ∷ [])

ends_in : {X : Type 0} (y : X) (ys : List X) (x : X) → slice_get (y ∷ ys) (length ys) ≡ Some x → EndsIn (y ∷ ys) x
ends_in {X} y [] x at = ([], ap (λ (z : X). z ∷ []) (same_Some y x at))
ends_in {X} y (z ∷ zs) x at =
    let rest : EndsIn (z ∷ zs) x = ends_in z zs x at in
    (y ∷ rest.0, ap (λ (xs : List X). y ∷ xs) rest.1)

pub last_at : {X : Type 0} (xs : List X) (x : X) → slice_get xs (length xs - 1) ≡ Some x → EndsIn xs x
last_at [] x at = absurd (cc)
last_at {X} (y ∷ ys) x at =
    let low : suc (length ys) - 1 ≡ length ys = omega arith in
    let G : ℕ → Type 0 = λ n. slice_get (y ∷ ys) n ≡ Some x in
    ends_in y ys x (subst G low at)

pub turned : {X : Type 0} (xs : List X) (x : X) (ends : EndsIn xs x) → reverse xs ≡ x ∷ reverse ends.0
turned {X} xs x ends = ap (λ (ys : List X). reverse ys) ends.1 ∙ reverse-append ends.0 (x ∷ [])

none_at : {X : Type 0} (y : X) (ys : List X) → slice_get (y ∷ ys) (length ys) ≡ None → ⊥
none_at y [] at = cc
none_at y (z ∷ zs) at = none_at z zs at

pub none_last : {X : Type 0} (xs : List X) → slice_get xs (length xs - 1) ≡ None → xs ≡ []
none_last [] at = refl
none_last {X} (y ∷ ys) at =
    let low : suc (length ys) - 1 ≡ length ys = omega arith in
    let G : ℕ → Type 0 = λ n. slice_get (y ∷ ys) n ≡ None in
    absurd (none_at y ys (subst G low at))

module _ (c : Configuration) (before after : Index) (fore : Foreknown) (kept : List Kept) where
  abbrev Facts : List Kept → Type 0
  Facts ks = AllByRecursion IsWhole ks × IsBehind c (Some fore) ks × IsIndexed c before (Some fore) (places_of c ks)

  module _ (newest : Kept) (at : slice_get kept (length kept - 1) ≡ Some newest) (facts : Facts (reverse kept)) where
    ends : EndsIn kept newest
    ends = last_at kept newest at

    rest : List Kept
    rest = reverse ends.0

    parts : reverse kept ≡ newest ∷ rest
    unfolding rest
    parts = turned kept newest ends

    place : length kept ≡ suc (length (places_of c rest))
    unfolding rest
    place =
        omega (arith, ap (λ (ks : List Kept). length ks) ends.1, length-append ends.0 (newest ∷ []), length-map (reverse ends.0) (kept_place c), length-reverse ends.0)

    here : Facts (newest ∷ rest)
    here = subst Facts parts facts

    pub newest_noted : IsNoted c before after newest (length kept) fore → IsIndexed c after None (places_of c (reverse kept))
    newest_noted noted =
        let N : ℕ → Type 0 = λ n. IsNoted c before after newest n fore in
        let I : List Kept → Type 0 = λ ks. IsIndexed c after None (places_of c ks) in
        subst I (sym parts) (index_noted c before after newest (places_of c rest) fore here.0.0 here.1 here.2 (subst N place noted))

    pub newest_partly_noted : IsPartlyNoted c before after newest (length kept) fore → IsIndexed c after (Some fore) (places_of c (reverse kept))
    newest_partly_noted noted =
        let N : ℕ → Type 0 = λ n. IsPartlyNoted c before after newest n fore in
        let I : List Kept → Type 0 = λ ks. IsIndexed c after (Some fore) (places_of c ks) in
        subst I (sym parts) (index_partly_noted c before after newest (places_of c rest) fore here.0.0 here.1 here.2 (subst N place noted))

  -- and there is none
  pub no_newest : slice_get kept (length kept - 1) ≡ None → IsIndexed c before (Some fore) (places_of c (reverse kept)) → IsIndexed c before None (places_of c (reverse kept))
  no_newest at is =
      let empty : reverse kept ≡ [] = ap (λ (ks : List Kept). reverse ks) (none_last kept at) in
      let I : List Kept → Type 0 = λ ks. IsIndexed c before (Some fore) (places_of c ks) → IsIndexed c before None (places_of c ks) in
      subst I (sym empty) (λ there. record { set = there.set; wrote = there.wrote; issued = there.issued }) is
