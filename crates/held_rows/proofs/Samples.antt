-- The definitions on small lists: rows that are numbers, each its own word and its own moment.
use Rattle.std.proofs.Common.{◌≡◌, ℕ, zero, suc, true, false, List, [], ◌∷◌, length, replicate, Some, None, inl, inr, refl, sym, ◌∙◌, arith}
use Rattle.std.proofs.lemmas.List.{length-replicate}
use Rattle.sso_base.specs.Words.{Word}
use Rattle.sso_base.specs.Rows.{row_of}
use Rattle.held_rows.specs.Held.{none_after, is_full, NoPlace}
use Rattle.held_rows.proofs.Added.{MayAdd}

abbrev name : ℕ → Word
name n = n ∷ []

abbrev begun : ℕ → ℕ
begun n = n

none_begins_later : none_after begun 9 (7 ∷ 9 ∷ []) ≡ true
none_begins_later = refl

one_begins_later : none_after begun 8 (7 ∷ 9 ∷ []) ≡ false
one_begins_later = refl

room_for_another : is_full 3 name (5 ∷ []) (7 ∷ 9 ∷ []) ≡ false
room_for_another = refl

no_room_beside_as_many : is_full 2 name (5 ∷ []) (7 ∷ 9 ∷ []) ≡ true
no_room_beside_as_many = refl

no_room_for_a_held_word : is_full 3 name (9 ∷ []) (7 ∷ 9 ∷ []) ≡ true
no_room_for_a_held_word = refl

may_add-another : MayAdd 3 name begun (7 ∷ []) 9
may_add-another = record { few = omega arith; unnamed = refl; latest = refl }

may_not_add-beside_as_many : MayAdd 1 name begun (7 ∷ []) 9 → ⊥
may_not_add-beside_as_many may = absurd (omega (arith, may.few))

-- no place beside 65,536 rows, whatever their names, and none beside a row of the name; one beside 65,535 rows of another name
abbrev seven : ℕ
seven = 7

abbrev sevens : ℕ → List ℕ
sevens n = replicate n seven

no_place_beside_65536_rows : NoPlace name (5 ∷ []) (sevens 65536)
no_place_beside_65536_rows = let long : length (sevens 65536) ≡ 65536 = length-replicate 65536 seven in inl (omega (arith, long))

no_place_beside_its_name : NoPlace name (9 ∷ []) (7 ∷ 9 ∷ [])
no_place_beside_its_name = inr (9, refl)

no_row_of_that_name : (n : ℕ) → row_of name (5 ∷ []) (sevens n) ≡ None
no_row_of_that_name zero = refl
no_row_of_that_name (suc n) = no_row_of_that_name n

place_beside_65535_rows : NoPlace name (5 ∷ []) (sevens 65535) → ⊥
place_beside_65535_rows (inl full) = let long : length (sevens 65535) ≡ 65535 = length-replicate 65535 seven in absurd (omega (arith, long, full))
place_beside_65535_rows (inr same) = (let k : None ≡ Some same.0 = sym (no_row_of_that_name 65535) ∙ same.1 in cc)
