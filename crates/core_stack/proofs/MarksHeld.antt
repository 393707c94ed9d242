-- The tables of rows with marks, after one more pair; and which rows may be added.
use Rattle.std.proofs.Common.{◌≡◌, ◌≤◌, ℕ, Bool, true, false, cond, List, [], ◌∷◌, ◌++◌, reverse, filter_map, Option, Some, None, option_map, option_and_then, IfSome, refl, ap, sym, ◌∙◌, subst}
use Rattle.std.specs.Str.{bytes_eq}
use Rattle.sso_base.specs.Words.{Word, is_word}
use Rattle.sso_base.specs.Rows.{put, row_of, if_lives, live_rows}
use Rattle.sso_base.specs.Stands.{IsDistinct}
use Rattle.sso_base.specs.declared.history.Pair.{Pair}
use Rattle.sso_base.proofs.RowLaws.{rows_distinct}
use Rattle.client_registry.specs.Configuration.{Configuration}
use Rattle.oidc_words.specs.Lives.{turn_life, code_life}
use Rattle.held_rows.specs.Held.{MayAddRow}
use Rattle.held_rows.proofs.Found.{same_later, found_in_both}
use Rattle.held_rows.proofs.Kept.{bytes_swap, all_kept, kept_without, none_after_later}
use Rattle.held_rows.proofs.Added.{rows_carried, begun_carried}
use Rattle.op_exchange.specs.declared.ask.OpAsk.{OpAsk}
use Rattle.op_exchange.specs.declared.reply.OpReply.{OpReply}
use Rattle.op_exchange.specs.Replied.{code_in}
use Rattle.op_answer.specs.Past.{OpPair}
use Rattle.op_answer.proofs.KeptNames.{some_same}
use Rattle.op_tables.proofs.TakenRows.{may_add_reserved}
use Rattle.core_stack.specs.declared.marks.TurnMark.{TurnMark}
use Rattle.core_stack.specs.declared.marks.CodeMark.{CodeMark}
use Rattle.core_stack.specs.Rows.{turn_mark_name, turn_mark_begun, code_mark_name, code_mark_begun}
use Rattle.core_stack.specs.Marks.{is_wish, page_turn, turn_mark, turn_row, named_in, turn_ended, turns_left, turn_kept, turn_made, marked_turns, marked_turn, code_mark, code_row, code_kept, answer_mark, code_made, marked_codes, marked_code}
use Rattle.core_stack.specs.Stacked.{IsStack}
use Rattle.core_stack.specs.Holding.{HoldMarks}
use Rattle.core_stack.proofs.Marked.{turns_stay, codes_stay}
use Rattle.core_stack.proofs.Rooms.{turn_has_room, code_has_room}

-- ---- one row

kept_same : {R : Type 0} (b : Bool) (row after : R) → cond b None (Some row) ≡ Some after → after ≡ row
kept_same true row after h = cc
kept_same false row after h = sym (some_same row after h)

turn_mapped : {M : Type 0} (w : Option Word) (m : M) (at : ℕ) (row : TurnMark M) → option_map (λ (v : Word). turn_mark v m at) w ≡ Some row → turn_mark_begun row ≡ at
turn_mapped None m at row h = cc
turn_mapped {M} (Some w) m at row h = let B : TurnMark M → ℕ = λ r. r.begun in ap B (sym (some_same (turn_mark w m at) row h))

code_mapped : {M : Type 0} (w : Option Word) (m : M) (at : ℕ) (row : CodeMark M) → option_map (λ (v : Word). code_mark v m at) w ≡ Some row → code_mark_begun row ≡ at
code_mapped None m at row h = cc
code_mapped {M} (Some w) m at row h = let B : CodeMark M → ℕ = λ r. r.issued in ap B (sym (some_same (code_mark w m at) row h))

turn_row_begun : {M : Type 0} (told : Option OpReply) (asks : Bool) (m : M) (at : ℕ) (row : TurnMark M) → turn_row told asks m at ≡ Some row → turn_mark_begun row ≡ at
turn_row_begun None asks m at row h = cc
turn_row_begun (Some r) false m at row h = cc
turn_row_begun (Some r) true m at row h = turn_mapped (page_turn r) m at row h

code_row_begun : {M : Type 0} (told : Option OpReply) (m : M) (at : ℕ) (row : CodeMark M) → code_row told m at ≡ Some row → code_mark_begun row ≡ at
code_row_begun None m at row h = cc
code_row_begun (Some r) m at row h = code_mapped (code_in r) m at row h

-- the row is kept as it is
code_same : {A R M : Type 0} (past : List (Pair A R)) (p : Pair A R) (row after : CodeMark M) → code_kept past p row ≡ Some after → after ≡ row
code_same past p row after h = sym (some_same row after h)

pub code_mark_names : {A R M : Type 0} (past : List (Pair A R)) (p : Pair A R) (row after : CodeMark M) → code_kept past p row ≡ Some after → code_mark_name after ≡ code_mark_name row
code_mark_names {A} {R} {M} past p row after h = let N : CodeMark M → Word = λ r. r.code in ap N (code_same past p row after h)

-- the rows that an ended turn leaves, by a rule for each row
left_by : {M : Type 0} (ended : Option Word) (k : TurnMark M → Option (TurnMark M)) (rows : List (TurnMark M)) → ((row : TurnMark M) → k row ≡ cond (is_word ended row.turn) None (Some row))
    → turns_left ended rows ≡ filter_map k rows
left_by None k rows same = sym (all_kept k rows same)
left_by {M} (Some w) k rows same =
    let each : (row : TurnMark M) → k row ≡ cond (bytes_eq (turn_mark_name row) w) None (Some row) = λ row.
    (let C : Bool → Option (TurnMark M) = λ b. cond b None (Some row) in same row ∙ ap C (bytes_swap w row.turn)) in
    sym (kept_without turn_mark_name w k rows each)

module _ {A R : Type 0} (plain : A → Option OpAsk) (given : R → Option OpReply) where
  turn_same : {M : Type 0} (past : List (Pair A R)) (p : Pair A R) (row after : TurnMark M) → turn_kept plain given past p row ≡ Some after → after ≡ row
  turn_same past p row after h = kept_same (is_word (turn_ended (given p.reply) (named_in (plain p.entry.ask))) row.turn) row after h

  pub turn_mark_names : {M : Type 0} (past : List (Pair A R)) (p : Pair A R) (row after : TurnMark M) → turn_kept plain given past p row ≡ Some after → turn_mark_name after ≡ turn_mark_name row
  turn_mark_names {M} past p row after h = let N : TurnMark M → Word = λ r. r.turn in ap N (turn_same past p row after h)

  pub left_is_kept : {M : Type 0} (past : List (Pair A R)) (p : Pair A R) (rows : List (TurnMark M))
      → turns_left (turn_ended (given p.reply) (named_in (plain p.entry.ask))) rows ≡ filter_map (turn_kept plain given past p) rows
  left_is_kept past p rows = left_by (turn_ended (given p.reply) (named_in (plain p.entry.ask))) (turn_kept plain given past p) rows (λ row. refl)

-- ---- the tables after one more pair

module _ {A R M : Type 0} (plain : A → Option OpAsk) (given : R → Option OpReply) (mark : A → M) (none : M) where
  -- to which the provider gave no reply
  pub holds_own : (past : List (Pair A R)) (p : Pair A R) (last : ℕ) (turns : List (TurnMark M)) (codes : List (CodeMark M)) → given p.reply ≡ None → last ≤ p.entry.at
      → HoldMarks plain given mark none past last turns codes → HoldMarks plain given mark none (p ∷ past) p.entry.at turns codes
  holds_own past p last turns codes gave order holds =
      let T : List (TurnMark M) → List (TurnMark M) = λ rows. live_rows turn_life turn_mark_begun p.entry.at rows in
      let C : List (CodeMark M) → List (CodeMark M) = λ rows. live_rows code_life code_mark_begun p.entry.at rows in
      record {
        turns_live = same_later turn_mark_name turn_life turn_mark_begun last p.entry.at order turns (marked_turns plain given mark past) holds.turns_live ∙ ap T (sym (turns_stay plain given mark past p gave));
        turns_begun = none_after_later turn_mark_begun last p.entry.at order turns holds.turns_begun;
        codes_live = same_later code_mark_name code_life code_mark_begun last p.entry.at order codes (marked_codes plain given mark none past) holds.codes_live ∙ ap C (sym (codes_stay plain given mark none past p gave));
        codes_begun = none_after_later code_mark_begun last p.entry.at order codes holds.codes_begun;
      }

  -- that was passed on
  pub holds_passed : (past : List (Pair A R)) (p : Pair A R) (last : ℕ) (turns turns' : List (TurnMark M)) (codes codes' : List (CodeMark M)) → last ≤ p.entry.at
      → HoldMarks plain given mark none past last turns codes
      → turns' ≡ put turn_mark_name (turn_made plain given mark (marked_turns plain given mark past) past p) (turns_left (turn_ended (given p.reply) (named_in (plain p.entry.ask))) (live_rows turn_life turn_mark_begun p.entry.at turns))
      → codes' ≡ put code_mark_name (code_made plain given mark none (marked_codes plain given mark none past) past p) (live_rows code_life code_mark_begun p.entry.at codes)
      → HoldMarks plain given mark none (p ∷ past) p.entry.at turns' codes'
  holds_passed past p last turns turns' codes codes' order holds turns_are codes_are =
      let at : ℕ = p.entry.at in
      let began : Option (TurnMark M) = turn_made plain given mark (marked_turns plain given mark past) past p in
      let made : Option (CodeMark M) = code_made plain given mark none (marked_codes plain given mark none past) past p in
      let P : List (TurnMark M) → List (TurnMark M) = λ rows. put turn_mark_name began rows in
      let Q : List (CodeMark M) → List (CodeMark M) = λ rows. put code_mark_name made rows in
      let B : TurnMark M → ℕ = λ row. row.begun in
      let I : CodeMark M → ℕ = λ row. row.issued in
      let follow_turns : turns' ≡ put turn_mark_name began (filter_map (turn_kept plain given past p) (live_rows turn_life turn_mark_begun at turns)) =
      turns_are ∙ ap P (left_is_kept plain given past p (live_rows turn_life turn_mark_begun at turns)) in
      let follow_codes : codes' ≡ put code_mark_name made (filter_map (code_kept past p) (live_rows code_life code_mark_begun at codes)) =
      codes_are ∙ ap Q (sym (all_kept (code_kept past p) (live_rows code_life code_mark_begun at codes) (λ row. refl))) in
      record {
        turns_live = rows_carried turn_mark_name turn_life turn_mark_begun last at (turn_kept plain given past p) began turns turns' order (λ r s h. ap B (turn_same plain given past p r s h)) (marked_turns plain given mark past) holds.turns_live follow_turns;
        turns_begun = begun_carried turn_mark_name turn_life turn_mark_begun last at (turn_kept plain given past p) began turns turns' order (λ r s h. ap B (turn_same plain given past p r s h))
            (λ r h. turn_row_begun (given p.reply) (is_wish (plain p.entry.ask)) (mark p.entry.ask) at r h) holds.turns_begun follow_turns;
        codes_live = rows_carried code_mark_name code_life code_mark_begun last at (code_kept past p) made codes codes' order (λ r s h. ap I (code_same past p r s h)) (marked_codes plain given mark none past) holds.codes_live follow_codes;
        codes_begun = begun_carried code_mark_name code_life code_mark_begun last at (code_kept past p) made codes codes' order (λ r s h. ap I (code_same past p r s h))
            (λ r h. code_row_begun (given p.reply) (answer_mark plain given mark none past at (mark p.entry.ask) (plain p.entry.ask)) at r h) holds.codes_begun follow_codes;
      }

  -- ---- what is found in them

  -- the live turn of a word is the one after the past
  pub turn_is_found : (past : List (Pair A R)) (last at : ℕ) (turns : List (TurnMark M)) (codes : List (CodeMark M)) (w : Word) → last ≤ at → HoldMarks plain given mark none past last turns codes
      → IsDistinct turn_mark_name turns
      → option_and_then (if_lives turn_life turn_mark_begun at) (row_of turn_mark_name w turns) ≡ marked_turn plain given mark past at (Some w)
  turn_is_found past last at turns codes w order holds distinct =
      found_in_both turn_mark_name turn_life turn_mark_begun last at order w turns (marked_turns plain given mark past) distinct
      (rows_distinct turn_mark_name (turn_made plain given mark) (turn_kept plain given) (turn_mark_names plain given) past) holds.turns_live

  -- so is the kept code of a word
  pub code_is_found : (past : List (Pair A R)) (last at : ℕ) (turns : List (TurnMark M)) (codes : List (CodeMark M)) (w : Word) → last ≤ at → HoldMarks plain given mark none past last turns codes
      → IsDistinct code_mark_name codes
      → option_and_then (if_lives code_life code_mark_begun at) (row_of code_mark_name w codes) ≡ marked_code plain given mark none past at (Some w)
  code_is_found past last at turns codes w order holds distinct =
      found_in_both code_mark_name code_life code_mark_begun last at order w codes (marked_codes plain given mark none past) distinct
      (rows_distinct code_mark_name (code_made plain given mark none) code_kept code_mark_names past) holds.codes_live

-- ---- what may be added

if_row : {R : Type 0} (P : R → Type 0) (o : Option R) → ((row : R) → o ≡ Some row → P row) → IfSome o P
if_row P None each = tt
if_row P (Some row) each = each row refl

module _ {A R M : Type 0} (plain : A → Option OpAsk) (given : R → Option OpReply) (mark : A → M) (provided : List (Pair A R) → List OpPair) (IsLegal : List (Pair A R) → Type 0) (c : Configuration)
    (stack : IsStack plain given provided IsLegal c) where
  pub turn_may : (none : M) (h : List (Pair A R)) (p : Pair A R) (last : ℕ) (turns : List (TurnMark M)) (codes : List (CodeMark M)) (began : Option (TurnMark M)) → IsLegal (h ++ p ∷ []) → last ≤ p.entry.at
      → HoldMarks plain given mark none (reverse h) last turns codes → began ≡ turn_made plain given mark (marked_turns plain given mark (reverse h)) (reverse h) p
      → IfSome began (MayAddRow turn_mark_name turn_mark_begun true (turns_left (turn_ended (given p.reply) (named_in (plain p.entry.ask))) (live_rows turn_life turn_mark_begun p.entry.at turns)))
  turn_may none h p last turns codes began legal order holds is =
      let at : ℕ = p.entry.at in
      let past : List (Pair A R) = reverse h in
      let live : List (TurnMark M) = live_rows turn_life turn_mark_begun at turns in
      let N : TurnMark M → Word = λ row. row.turn in
      let B : TurnMark M → ℕ = λ row. row.begun in
      if_row (MayAddRow turn_mark_name turn_mark_begun true (turns_left (turn_ended (given p.reply) (named_in (plain p.entry.ask))) live)) began (λ row there.
      (let made : turn_made plain given mark (marked_turns plain given mark (reverse h)) (reverse h) p ≡ Some row = sym is ∙ there in
      let F : List (TurnMark M) → Type 0 = λ rows. MayAddRow turn_mark_name turn_mark_begun true rows row in
      subst F (sym (left_is_kept plain given past p live))
      (may_add_reserved turn_mark_name turn_life turn_mark_begun (turn_kept plain given past p) last at order turns (λ r s k. ap N (turn_same plain given past p r s k)) (λ r s k. ap B (turn_same plain given past p r s k))
      holds.turns_begun (marked_turns plain given mark past) holds.turns_live row (turn_row_begun (given p.reply) (is_wish (plain p.entry.ask)) (mark p.entry.ask) at row made)
      (turn_has_room plain given mark provided IsLegal c stack h p row legal made))))

  pub code_may : (none : M) (h : List (Pair A R)) (p : Pair A R) (last : ℕ) (turns : List (TurnMark M)) (codes : List (CodeMark M)) (made : Option (CodeMark M)) → IsLegal (h ++ p ∷ []) → last ≤ p.entry.at
      → HoldMarks plain given mark none (reverse h) last turns codes → made ≡ code_made plain given mark none (marked_codes plain given mark none (reverse h)) (reverse h) p
      → IfSome made (MayAddRow code_mark_name code_mark_begun true (live_rows code_life code_mark_begun p.entry.at codes))
  code_may none h p last turns codes made legal order holds is =
      let at : ℕ = p.entry.at in
      let past : List (Pair A R) = reverse h in
      let live : List (CodeMark M) = live_rows code_life code_mark_begun at codes in
      let N : CodeMark M → Word = λ row. row.code in
      let I : CodeMark M → ℕ = λ row. row.issued in
      if_row (MayAddRow code_mark_name code_mark_begun true live) made (λ row there.
      (let makes : code_made plain given mark none (marked_codes plain given mark none (reverse h)) (reverse h) p ≡ Some row = sym is ∙ there in
      let F : List (CodeMark M) → Type 0 = λ rows. MayAddRow code_mark_name code_mark_begun true rows row in
      subst F (all_kept (code_kept past p) live (λ row. refl))
      (may_add_reserved code_mark_name code_life code_mark_begun (code_kept past p) last at order codes (λ r s k. ap N (code_same past p r s k)) (λ r s k. ap I (code_same past p r s k))
      holds.codes_begun (marked_codes plain given mark none past) holds.codes_live row (code_row_begun (given p.reply) (answer_mark plain given mark none past at (mark p.entry.ask) (plain p.entry.ask)) at row makes)
      (code_has_room plain given mark provided IsLegal c stack none h p row legal makes))))

-- the same rows, by another name
pub may_through : {R : Type 0} (name : R → Word) (begun : R → ℕ) (row : Option R) (xs ys : List R) → ys ≡ xs → IfSome row (MayAddRow name begun true xs) → IfSome row (MayAddRow name begun true ys)
may_through {R} name begun row xs ys same may =
    let F : List R → Type 0 = λ l. IfSome row (MayAddRow name begun true l) in
    subst F (sym same) may
