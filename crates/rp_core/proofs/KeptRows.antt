-- Rows of one word that a pair ends, or leaves.
use Rattle.std.proofs.Common.{◌≡◌, Bool, true, false, ◌&&◌, cond, List, filter_map, Option, Some, None, refl, ◌∙◌, ap}
use Rattle.sso_base.specs.Words.{Word, is_word}
use Rattle.sso_base.specs.Rows.{without}
use Rattle.held_rows.proofs.Kept.{bytes_swap, all_kept, kept_without}

both : (a b : Bool) → a ≡ false → (a && b) ≡ false
both true b h = cc
both false b h = refl

pub second : (a b : Bool) → b ≡ false → (a && b) ≡ false
second true b h = h
second false b h = refl

pub met : (a b : Bool) → b ≡ true → (a && b) ≡ a
met true b h = h
met false b h = refl

module _ {R : Type 0} (name : R → Word) where
  -- the row of the word is ended, where the pair ends it
  abbrev pub ended_rule : Option Word → Bool → R → Option R
  ended_rule named ends row = cond (is_word named (name row) && ends) None (Some row)

  pub unended : (named : Option Word) (ends : Bool) → ends ≡ false → (rows : List R) → filter_map (ended_rule named ends) rows ≡ rows
  unended named ends not rows =
      let B : R → Bool → Option R = λ row b. cond b None (Some row) in
      all_kept (ended_rule named ends) rows (λ row. ap (B row) (second (is_word named (name row)) ends not))

  pub unnamed : (named : Option Word) (ends : Bool) → named ≡ None → (rows : List R) → filter_map (ended_rule named ends) rows ≡ rows
  unnamed named ends none rows =
      let N : R → Option Word → Option R = λ row o. cond (is_word o (name row) && ends) None (Some row) in
      all_kept (ended_rule named ends) rows (λ row. ap (N row) none)

  pub ended : (named : Option Word) (ends : Bool) (w : Word) → named ≡ Some w → ends ≡ true → (rows : List R) → filter_map (ended_rule named ends) rows ≡ without name w rows
  ended named ends w is ends_it rows =
      let B : R → Bool → Option R = λ row b. cond b None (Some row) in
      let N : R → Option Word → Option R = λ row o. cond (is_word o (name row)) None (Some row) in
      kept_without name w (ended_rule named ends) rows
      (λ row. ap (B row) (met (is_word named (name row)) ends ends_it) ∙ ap (N row) is ∙ ap (B row) (bytes_swap w (name row)))
