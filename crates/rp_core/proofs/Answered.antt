-- The exchange that is answered ends, where it waits for this answer; the others stay.
use Rattle.std.proofs.Common.{◌≡◌, ◌<◌, ◌≤◌, Bool, true, false, not, ◌&&◌, ◌||◌, nat_lt, cond, List, [], ◌∷◌, length, Option, Some, None, is_some, option_and_then, refl, sym, ◌∙◌, ap, inl, inr, arith}
use Rattle.std.specs.Str.{bytes_eq}
use Rattle.std.specs.List.{cons_option}
use Rattle.std.proofs.lemmas.Bool.{lt-ltb}
use Rattle.sso_base.specs.Words.{Word}
use Rattle.sso_base.specs.Rows.{row_of, without}
use Rattle.sso_base.specs.Stands.{IsDistinct}
use Rattle.sso_base.proofs.RowLaws.{bool_cases, bytes_same, row_of-without_same, row_of-without_other}
use Rattle.held_rows.specs.Held.{most_rows, is_full}
use Rattle.held_rows.proofs.HeldLaws.{shorter_there}
use Rattle.held_rows.proofs.Kept.{bytes_swap, without_none}
use Rattle.rp_login.specs.declared.rows.PendingRow.{PendingRow}
use Rattle.rp_login.specs.declared.rows.Stage.{Stage}
use Rattle.rp_login.specs.Rows.{pending_name}
use Rattle.rp_answer.specs.Pendings.{is_stage, if_stage, is_answered}
use Rattle.rp_answer.proofs.KeptNames.{some_same}
use Rattle.rp_core.specs.Keeping.{is_waiting, without_answered}

module _ (w : Word) (waits : Stage) where
  abbrev rule : PendingRow → Option PendingRow
  rule row = cond (is_answered (Some (w, waits)) row) None (Some row)

  abbrev found : List PendingRow → Option PendingRow
  found rows = row_of pending_name w rows

  -- one row: of another word, of this word
  other_row : (row : PendingRow) → bytes_eq row.word w ≡ false → rule row ≡ Some row
  other_row row other =
      let B : Bool → Option PendingRow = λ b. cond (b && is_stage waits row.stage) None (Some row) in
      ap B (bytes_swap w row.word ∙ other)

  own_row : (row : PendingRow) (same : Bool) → bytes_eq row.word w ≡ true → is_stage waits row.stage ≡ same → rule row ≡ cond same None (Some row)
  own_row row same named is =
      let B : Bool → Option PendingRow = λ b. cond (b && is_stage waits row.stage) None (Some row) in
      let S : Bool → Option PendingRow = λ b. cond b None (Some row) in
      ap B (bytes_swap w row.word ∙ named) ∙ ap S is

  -- where no row has the word, all stay
  pub absent_stay : (rows : List PendingRow) → found rows ≡ None → without_answered w waits rows ≡ rows
  absent_stay [] h = refl
  absent_stay (r ∷ rs) h =
      let G : Bool → Option PendingRow = λ b. cond b (Some r) (found rs) in
      let C : Option PendingRow → List PendingRow = λ o. cons_option o (without_answered w waits rs) in
      let push : List PendingRow → List PendingRow = λ xs. r ∷ xs in
      elim (bool_cases (bytes_eq r.word w)) [
        | inl e ↦ (let never : Some r ≡ None = sym (ap G e) ∙ h in cc)
        | inr e ↦ ap C (other_row r e) ∙ ap push (absent_stay rs (sym (ap G e) ∙ h))
      ]

  -- behind the row of the word there is no other
  none_behind : (r : PendingRow) (rs : List PendingRow) → bytes_eq r.word w ≡ true → row_of pending_name (pending_name r) rs ≡ None → found rs ≡ None
  none_behind r rs named none =
      let F : Word → Option PendingRow = λ v. row_of pending_name v rs in
      ap F (sym (bytes_same r.word w named)) ∙ none

  first_ended : (r : PendingRow) (rs : List PendingRow) (same : Bool) → bytes_eq r.word w ≡ true → found rs ≡ None
      → cons_option (cond same None (Some r)) (without_answered w waits rs) ≡ cond same (without pending_name w (r ∷ rs)) (r ∷ rs)
  first_ended r rs true named none =
      let W : Bool → List PendingRow = λ b. cond b (without pending_name w rs) (r ∷ without pending_name w rs) in
      absent_stay rs none ∙ sym (without_none pending_name w rs none) ∙ sym (ap W named)
  first_ended r rs false named none =
      let push : List PendingRow → List PendingRow = λ xs. r ∷ xs in
      ap push (absent_stay rs none)

  pushed : (same : Bool) (r : PendingRow) (rs : List PendingRow) → bytes_eq r.word w ≡ false → r ∷ cond same (without pending_name w rs) rs ≡ cond same (without pending_name w (r ∷ rs)) (r ∷ rs)
  pushed true r rs other =
      let W : Bool → List PendingRow = λ b. cond b (without pending_name w rs) (r ∷ without pending_name w rs) in
      sym (ap W other)
  pushed false r rs other = refl

  -- the one row of the word ends if and only if it waits for this answer
  pub ended_by : (rows : List PendingRow) (row : PendingRow) (same : Bool) → IsDistinct pending_name rows → found rows ≡ Some row → is_stage waits row.stage ≡ same
      → without_answered w waits rows ≡ cond same (without pending_name w rows) rows
  ended_by [] row same distinct h is = cc
  ended_by (r ∷ rs) row same distinct h is =
      let G : Bool → Option PendingRow = λ b. cond b (Some r) (found rs) in
      let C : Option PendingRow → List PendingRow = λ o. cons_option o (without_answered w waits rs) in
      let W : Bool → List PendingRow = λ b. cond b (without pending_name w rs) (r ∷ without pending_name w rs) in
      let push : List PendingRow → List PendingRow = λ xs. r ∷ xs in
      elim (bool_cases (bytes_eq r.word w)) [
        | inl e ↦
            (let one : r ≡ row = some_same r row (sym (ap G e) ∙ h) in
            let S : PendingRow → Bool = λ x. is_stage waits x.stage in
            let none : found rs ≡ None = none_behind r rs e distinct.0 in
            ap C (own_row r same e (ap S one ∙ is)) ∙ first_ended r rs same e none)
        | inr e ↦ ap C (other_row r e) ∙ ap push (ended_by rs row same distinct.1 (sym (ap G e) ∙ h) is) ∙ pushed same r rs e
      ]

  -- ---- by the question that the table is asked

  pub stage_by : (row : PendingRow) (same : Bool) → is_stage waits row.stage ≡ same → is_stage waits row.stage ≡ is_some (if_stage waits row)
  stage_by row true is = (let I : Bool → Bool = λ b. is_some (cond b (Some row) None) in is ∙ sym (ap I is))
  stage_by row false is = (let I : Bool → Bool = λ b. is_some (cond b (Some row) None) in is ∙ sym (ap I is))

  if_one : (rows : List PendingRow) (o : Option PendingRow) (b : Bool) → IsDistinct pending_name rows → found rows ≡ o → is_some (option_and_then (if_stage waits) o) ≡ b
      → without_answered w waits rows ≡ cond b (without pending_name w rows) rows
  if_one rows None b distinct is h =
      let B : Bool → List PendingRow = λ x. cond x (without pending_name w rows) rows in
      absent_stay rows is ∙ ap B h
  if_one rows (Some row) b distinct is h = ended_by rows row b distinct is (stage_by row (is_stage waits row.stage) refl ∙ h)

  pub waiting_ends : (rows : List PendingRow) → IsDistinct pending_name rows → is_waiting w waits rows ≡ true → without pending_name w rows ≡ without_answered w waits rows
  waiting_ends rows distinct h = sym (if_one rows (found rows) true distinct refl h)

  pub others_stay : (rows : List PendingRow) → IsDistinct pending_name rows → is_waiting w waits rows ≡ false → rows ≡ without_answered w waits rows
  others_stay rows distinct h = sym (if_one rows (found rows) false distinct refl h)

-- ---- beside the row of a word

module _ (answered w : Word) (rows : List PendingRow) where
  room_by : (few named other : Bool) → few ≡ true → named ≡ other → (not few || named) ≡ other
  room_by true named other h same = same
  room_by false named other h same = cc

  named_beside : (same : Bool) → bytes_eq answered w ≡ same → is_some (row_of pending_name w (without pending_name answered rows)) ≡ (not same && is_some (row_of pending_name w rows))
  named_beside true e =
      let S : Option PendingRow → Bool = λ o. is_some o in
      let N : Word → Option PendingRow = λ v. row_of pending_name v (without pending_name answered rows) in
      ap S (ap N (sym (bytes_same answered w e)) ∙ row_of-without_same pending_name answered rows)
  named_beside false e = let S : Option PendingRow → Bool = λ o. is_some o in ap S (row_of-without_other pending_name answered w rows e)

  -- where the row is there, there is room beside it
  pub room_beside : is_some (row_of pending_name answered rows) ≡ true → length rows ≤ most_rows
      → (not (bytes_eq answered w) && is_some (row_of pending_name w rows)) ≡ is_full most_rows pending_name w (without pending_name answered rows)
  room_beside there short =
      let fewer : length (without pending_name answered rows) < length rows = shorter_there pending_name answered rows there in
      let few : nat_lt (length (without pending_name answered rows)) most_rows ≡ true = lt-ltb (length (without pending_name answered rows)) most_rows (omega (arith, fewer, short)) in
      sym (room_by (nat_lt (length (without pending_name answered rows)) most_rows) (is_some (row_of pending_name w (without pending_name answered rows)))
      (not (bytes_eq answered w) && is_some (row_of pending_name w rows)) few (named_beside (bytes_eq answered w) refl))

  pub room_for_other : is_some (row_of pending_name answered rows) ≡ true → length rows ≤ most_rows → true ≡ not (bytes_eq answered w)
      → is_some (row_of pending_name w rows) ≡ is_full most_rows pending_name w (without pending_name answered rows)
  room_for_other there short other =
      let N : Bool → Bool = λ b. b && is_some (row_of pending_name w rows) in
      ap N other ∙ room_beside there short

  pub room_for_same : is_some (row_of pending_name answered rows) ≡ true → length rows ≤ most_rows → false ≡ not (bytes_eq answered w)
      → false ≡ is_full most_rows pending_name w (without pending_name answered rows)
  room_for_same there short same =
      let N : Bool → Bool = λ b. b && is_some (row_of pending_name w rows) in
      ap N same ∙ room_beside there short

  none_by : (o : Option PendingRow) → is_some o ≡ false → o ≡ None
  none_by None h = refl
  none_by (Some row) h = cc

  -- where it is not, all are beside it
  pub all_beside : is_some (row_of pending_name answered rows) ≡ false → is_full most_rows pending_name w rows ≡ is_full most_rows pending_name w (without pending_name answered rows)
  all_beside none =
      let F : List PendingRow → Bool = λ xs. is_full most_rows pending_name w xs in
      ap F (sym (without_none pending_name answered rows (none_by (row_of pending_name answered rows) none)))
