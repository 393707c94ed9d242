-- Lists from a place on.
use Rattle.std.proofs.Common.{◌≡◌, ◌⊎◌, inl, inr, ℕ, ◌+◌, ◌<◌, ◌≤◌, Option, List, [], ◌∷◌, ◌++◌, append_assoc, drop, length, get_or, Some, None, slice_get, Bool, false, sym, ap, ◌∙◌, arith}
use Rattle.std.specs.List.{list_any, position_from}
use Rattle.std.proofs.lemmas.Option.{slice_get_cases}
use Rattle.sso_base.proofs.ListSteps.{drop_at}

-- a test that fails at a place may be left out there
pub any_rest : {A : Type 0} (f : A → Bool) (xs : List A) (i : ℕ) (x : A) (b : Bool) → slice_get xs i ≡ Some x → f x ≡ false → list_any f (drop i xs) ≡ b → list_any f (drop (i + 1) xs) ≡ b
any_rest f xs i x b e h is =
    let here : list_any f (x ∷ drop (i + 1) xs) ≡ b = ap (list_any f) (sym (drop_at xs i x e)) ∙ is in
    rw h at here

past_at : {A : Type 0} (xs : List A) (i : ℕ) → length xs ≤ i → ((x : A) × (i < length xs) × (slice_get xs i ≡ Some x) × (get_or xs i x ≡ x)) ⊎ ((length xs ≤ i) × (slice_get xs i ≡ None)) → slice_get xs i ≡ None
past_at xs i h (inl there) = absurd (omega (arith, there.1))
past_at xs i h (inr past) = past.1

pub past_end : {A : Type 0} (xs : List A) (i : ℕ) → length xs ≤ i → slice_get xs i ≡ None
past_end xs i h = past_at xs i h (slice_get_cases xs i).1

-- the first place that passes a test is a later one, where this one fails
pub position_next : {A : Type 0} (f : A → Bool) (xs : List A) (i : ℕ) (x : A) (o : Option ℕ) → slice_get xs i ≡ Some x → f x ≡ false → position_from f i (drop i xs) ≡ o → position_from f (i + 1) (drop (i + 1) xs) ≡ o
position_next f xs i x o e h is =
    let here : position_from f i (x ∷ drop (i + 1) xs) ≡ o = ap (position_from f i) (sym (drop_at xs i x e)) ∙ is in
    rw h at here

-- three parts, with a zero between
pub joined_parts : (a b c : List ℕ) → (((a ++ 0 ∷ []) ++ b) ++ 0 ∷ []) ++ c ≡ a ++ 0 ∷ (b ++ 0 ∷ c)
joined_parts a b c =
    append_assoc ((a ++ 0 ∷ []) ++ b) (0 ∷ []) c ∙ append_assoc (a ++ 0 ∷ []) b (0 ∷ c) ∙ append_assoc a (0 ∷ []) (b ++ 0 ∷ c)
