-- Places and words as keys of tables.
use Rattle.std.proofs.Common.{◌≡◌, ◌<◌, ◌^◌, ℕ, nat_eq, Bool, true, cond, List, [], ◌∷◌, Option, Some, inl, inr, refl, ap, sym, ◌∙◌, arith}
use Rattle.std.proofs.lemmas.Nat.{from_be_bytes-to_be_bytes_8}
use Rattle.std.specs.Int.{w64, from_be_bytes}
use Rattle.std.specs.Str.{bytes_eq}
use Rattle.sso_base.specs.Rows.{row_of}
use Rattle.sso_base.proofs.RowLaws.{bool_cases, bytes_same, bytes_true}
use Rattle.refresh_answer.specs.Places.{place_bytes}
use Rattle.refresh_answer.specs.Rows.{family_name}
use Rattle.refresh_answer.specs.Families.{family_at}
use Rattle.refresh_answer.specs.declared.rows.FamilyRow.{FamilyRow}
use Rattle.refresh_answer.proofs.Families.{other_number, true_false}
use Rattle.refresh_rows.specs.Booked.{ArePlaces}

-- ---- a place has its own bytes

pub place_is : (n m : ℕ) → n < 2 ^ 64 → m < 2 ^ 64 → bytes_eq (place_bytes n) (place_bytes m) ≡ true → n ≡ m
place_is n m low high same =
    sym (from_be_bytes-to_be_bytes_8 n low) ∙ ap (from_be_bytes w64) (bytes_same (place_bytes n) (place_bytes m) same) ∙ from_be_bytes-to_be_bytes_8 m high

pub number_same : (a b : ℕ) → a ≡ b → nat_eq a b ≡ true
number_same a b h = grind (arith, h)

pub place_same : (n m : ℕ) → n < 2 ^ 64 → m < 2 ^ 64 → bytes_eq (place_bytes n) (place_bytes m) ≡ nat_eq n m
place_same n m low high =
    elim (bool_cases (bytes_eq (place_bytes n) (place_bytes m))) [
      | inl e ↦ (let same : n ≡ m = place_is n m low high e in e ∙ sym (number_same n m same))
      | inr e ↦ e ∙ sym (other_number n m (λ same. (let P : ℕ → List ℕ = λ k. place_bytes k in true_false (sym (bytes_true (place_bytes n) (place_bytes m) (ap P same)) ∙ e))))
    ]

-- the family of a place is found by its bytes
pub place_found : (n : ℕ) (fs : List FamilyRow) → n < 2 ^ 64 → ArePlaces fs → row_of family_name (place_bytes n) fs ≡ family_at n fs
place_found n [] low wide = refl
place_found n (f ∷ fs) low wide =
    let again : row_of family_name (place_bytes n) fs ≡ family_at n fs = place_found n fs low wide.1 in
    let B : Bool → Option FamilyRow = λ b. cond b (Some f) (row_of family_name (place_bytes n) fs) in
    let C : Option FamilyRow → Option FamilyRow = λ o. cond (nat_eq f.by n) (Some f) o in
    ap B (place_same f.by n wide.0 low) ∙ ap C again
