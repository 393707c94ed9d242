-- The places of a kind, counted by their numbers from 1, are those of the world.
use Rattle.std.proofs.Common.{◌≡◌, ℕ, suc, zero, ◌≤◌, Bool, cond, [], ◌∷◌, length, Some, option_map, refl, ap, ◌∙◌, arith}
use Rattle.std.proofs.lemmas.Bool.{eq-eqb, ne_eqb}
use Rattle.sso_places.specs.World.{Place, World, place_at, reply_at}
use Rattle.oidc_replay.specs.declared.tally.Kind.{Kind}
use Rattle.oidc_replay.specs.Storm.{is_of, is_there, is_at, count_of}

-- how many of the first places, up to a number, are of the kind
abbrev pub first_of : Kind → World → ℕ → ℕ
first_of kind world zero = 0
first_of kind world (suc n) = cond (is_at kind world (suc n)) (suc (first_of kind world n)) (first_of kind world n)

module _ (kind : Kind) (x : Place) (world : World) where
  -- whether the place of a number is the newest
  abbrev at_newest : ℕ → Bool → Bool
  at_newest n newest = is_there kind (option_map reply_at (cond newest (Some x) (place_at world n)))

  -- the older places keep their numbers
  older_at : (n : ℕ) → suc n ≤ length world → is_at kind (x ∷ world) (suc n) ≡ is_at kind world (suc n)
  older_at n few = ap (at_newest (suc n)) (ne_eqb (suc n) (suc (length world)) (λ same. omega (arith, few, same)))

  older : (n : ℕ) → n ≤ length world → first_of kind (x ∷ world) n ≡ first_of kind world n
  older zero few = refl
  older (suc n) few =
      let before : first_of kind (x ∷ world) n ≡ first_of kind world n = older n (omega (arith, few)) in
      ap (λ (b : Bool). cond b (suc (first_of kind (x ∷ world) n)) (first_of kind (x ∷ world) n)) (older_at n few)
      ∙ ap (λ (m : ℕ). cond (is_at kind world (suc n)) (suc m) m) before

  newest_at : is_at kind (x ∷ world) (suc (length world)) ≡ is_of kind (reply_at x)
  newest_at = ap (at_newest (suc (length world))) (eq-eqb (suc (length world)) (suc (length world)) refl)

pub all_counted : (kind : Kind) (world : World) → first_of kind world (length world) ≡ count_of kind world
all_counted kind [] = refl
all_counted kind (x ∷ world) =
    let n : ℕ = length world in
    let before : first_of kind (x ∷ world) n ≡ count_of kind world = older kind x world n (omega arith) ∙ all_counted kind world in
    ap (λ (b : Bool). cond b (suc (first_of kind (x ∷ world) n)) (first_of kind (x ∷ world) n)) (newest_at kind x world)
    ∙ ap (λ (m : ℕ). cond (is_of kind (reply_at x)) (suc m) m) before
