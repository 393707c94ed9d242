-- A row with a mark has room among those that live where the provider's row has room.
use Rattle.std.proofs.Common.{◌≡◌, ℕ, Bool, false, List, [], ◌∷◌, ◌++◌, length, reverse, Option, Some, None, ap, sym, ◌∙◌, subst, inl, inr}
use Rattle.sso_base.specs.Words.{Word}
use Rattle.sso_base.specs.Rows.{live_rows}
use Rattle.sso_base.specs.declared.history.Entry.{Entry}
use Rattle.sso_base.specs.declared.history.Pair.{Pair}
use Rattle.sso_base.proofs.RowLaws.{option_cases}
use Rattle.client_registry.specs.Configuration.{Configuration}
use Rattle.oidc_words.specs.Lives.{turn_life, code_life}
use Rattle.held_rows.specs.Held.{most_rows, is_full}
use Rattle.code_grant.specs.Rows.{turn_name, turn_begun, code_name, code_begun}
use Rattle.op_exchange.specs.declared.ask.OpAsk.{OpAsk}
use Rattle.op_exchange.specs.declared.reply.OpReply.{OpReply}
use Rattle.op_exchange.specs.Replied.{code_in, access_in}
use Rattle.op_answer.specs.Past.{OpPair, OpPast}
use Rattle.op_answer.specs.Turns.{turns, live_turns}
use Rattle.op_answer.specs.Turns as turns_of
use Rattle.op_answer.specs.Sessions.{wish_by, session_used, session_of}
use Rattle.op_answer.specs.Codes.{codes_issued, held_codes}
use Rattle.op_answer.specs.Codes as codes_of
use Rattle.op_answer.specs.Room.{lacks_turn, lacks_session, lacks_code, lacks_access}
use Rattle.op_answer.specs.Answering.{op_answer}
use Rattle.op_answer.proofs.Standing.{own_replies_stand}
use Rattle.op_tables.proofs.TakenUp.{first_false, third_false, turn_lacks, own_code, code_by_word}
use Rattle.core_stack.specs.declared.marks.TurnMark.{TurnMark}
use Rattle.core_stack.specs.declared.marks.CodeMark.{CodeMark}
use Rattle.core_stack.specs.Stacks.{provider_pair, AddsPair, AddsGiven}
use Rattle.core_stack.specs.Rows.{turn_mark_name, turn_mark_begun, code_mark_name, code_mark_begun}
use Rattle.core_stack.specs.Marks.{is_wish, turn_row, turn_made, marked_turns, code_row, answer_mark, code_made, marked_codes}
use Rattle.core_stack.specs.Asked.{IsOfTurn, IsOfCode}
use Rattle.core_stack.specs.Stacked.{IsStack}
use Rattle.core_stack.proofs.Both.{Both, second_of_both, both_live_rows, both_full}
use Rattle.core_stack.proofs.Marked.{answered_as, turn_starts, code_starts, turns_at, codes_at}

module _ {A R M : Type 0} (plain : A → Option OpAsk) (given : R → Option OpReply) (mark : A → M) where
  turn_room : (c : Configuration) (past : List (Pair A R)) (p : Pair A R) (before : OpPast) (request : OpAsk) (r : OpReply) (row : TurnMark M)
      → plain p.entry.ask ≡ Some request → given p.reply ≡ Some r → Both (IsOfTurn plain given mark past) (marked_turns plain given mark past) (turns before)
      → op_answer c before (record { at = p.entry.at; fresh = p.entry.fresh; ask = request }) ≡ r
      → turn_made plain given mark (marked_turns plain given mark past) past p ≡ Some row
      → is_full most_rows turn_mark_name row.turn (live_rows turn_life turn_mark_begun p.entry.at (marked_turns plain given mark past)) ≡ false
  turn_room c past p before request r row asks gave both led made =
      let at : ℕ = p.entry.at in
      let e : Entry OpAsk = record { at = p.entry.at; fresh = p.entry.fresh; ask = request } in
      let found = second_of_both (IsOfTurn plain given mark (p ∷ past)) (turn_made plain given mark (marked_turns plain given mark past) past p)
      (turns_of.turn_made (turns before) before (provider_pair p.entry.at p.entry.fresh request r)) row (turn_starts plain given mark past p before request r asks gave) made in
      let lacks = turn_lacks before at request r found.0 found.1 in
      let room = first_false (lacks_turn before at request r) (lacks_session before at request r) (lacks_code before at (code_in r)) (lacks_access before at (access_in r)) (own_replies_stand c before e r lacks.0 led).room in
      let N : Word → Bool = λ w. is_full most_rows turn_mark_name w (live_rows turn_life turn_mark_begun at (marked_turns plain given mark past)) in
      ap N found.2.0
      ∙ both_full (IsOfTurn plain given mark past) turn_mark_name turn_name (λ x y is. is.0) most_rows found.0.word
      (live_rows turn_life turn_mark_begun at (marked_turns plain given mark past)) (live_turns before at)
      (both_live_rows (IsOfTurn plain given mark past) turn_life turn_mark_begun turn_begun (λ x y is. is.1) at (marked_turns plain given mark past) (turns before) both)
      ∙ sym lacks.1 ∙ room

module _ {A R M : Type 0} (plain : A → Option OpAsk) (given : R → Option OpReply) (mark : A → M) (none : M) where
  code_room : (c : Configuration) (past : List (Pair A R)) (p : Pair A R) (before : OpPast) (request : OpAsk) (r : OpReply) (row : CodeMark M)
      → plain p.entry.ask ≡ Some request → given p.reply ≡ Some r → Both (IsOfTurn plain given mark past) (marked_turns plain given mark past) (turns before)
      → Both (IsOfCode plain given mark past) (marked_codes plain given mark none past) (codes_issued before)
      → op_answer c before (record { at = p.entry.at; fresh = p.entry.fresh; ask = request }) ≡ r
      → code_made plain given mark none (marked_codes plain given mark none past) past p ≡ Some row
      → is_full most_rows code_mark_name row.code (live_rows code_life code_mark_begun p.entry.at (marked_codes plain given mark none past)) ≡ false
  code_room c past p before request r row asks gave both codes led made =
      let at : ℕ = p.entry.at in
      let e : Entry OpAsk = record { at = p.entry.at; fresh = p.entry.fresh; ask = request } in
      let q : OpPair = provider_pair p.entry.at p.entry.fresh request r in
      let found = second_of_both (IsOfCode plain given mark (p ∷ past)) (code_made plain given mark none (marked_codes plain given mark none past) past p)
      (codes_of.code_made (codes_issued before) before q) row (code_starts plain given mark none c past p before request r asks gave both led) made in
      let word = code_by_word (length before) at (code_in r) (wish_by before request) (session_of (q ∷ before) (session_used before request r)) found.0 found.1 in
      let room = third_false (lacks_turn before at request r) (lacks_session before at request r) (lacks_code before at (code_in r)) (lacks_access before at (access_in r))
      (own_replies_stand c before e r (own_code r found.0.word word) led).room in
      let L : Option Word → Bool = λ o. lacks_code before at o in
      let N : Word → Bool = λ w. is_full most_rows code_mark_name w (live_rows code_life code_mark_begun at (marked_codes plain given mark none past)) in
      ap N found.2.0
      ∙ both_full (IsOfCode plain given mark past) code_mark_name code_name (λ x y is. is.0) most_rows found.0.word
      (live_rows code_life code_mark_begun at (marked_codes plain given mark none past)) (held_codes before at)
      (both_live_rows (IsOfCode plain given mark past) code_life code_mark_begun code_begun (λ x y is. is.1) at (marked_codes plain given mark none past) (codes_issued before) codes)
      ∙ sym (ap L word) ∙ room

-- ---- over the legal histories of a core

module _ {A R M : Type 0} (plain : A → Option OpAsk) (given : R → Option OpReply) (mark : A → M) (provided : List (Pair A R) → List OpPair) (IsLegal : List (Pair A R) → Type 0) (c : Configuration)
    (stack : IsStack plain given provided IsLegal c) where
  pub turn_has_room : (h : List (Pair A R)) (p : Pair A R) (row : TurnMark M) → IsLegal (h ++ p ∷ [])
      → turn_made plain given mark (marked_turns plain given mark (reverse h)) (reverse h) p ≡ Some row
      → is_full most_rows turn_mark_name row.turn (live_rows turn_life turn_mark_begun p.entry.at (marked_turns plain given mark (reverse h))) ≡ false
  turn_has_room h p row legal made =
      let N : Option OpReply → Type 0 = λ g. AddsGiven p.entry.at p.entry.fresh (plain p.entry.ask) g (provided h) (provided (h ++ p ∷ [])) in
      let G : Option OpReply → Option (TurnMark M) = λ g. turn_row g (is_wish (plain p.entry.ask)) (mark p.entry.ask) p.entry.at in
      elim (option_cases (given p.reply)) [
        | inl gave ↦ (let none : ◌≡◌ {A = Option (TurnMark M)} None (Some row) = sym (ap G gave) ∙ made in cc)
        | inr gave ↦ (let one : AddsPair p.entry.at p.entry.fresh (plain p.entry.ask) gave.0 (provided h) (provided (h ++ p ∷ [])) = subst N gave.1 (stack.adds h p legal) in
            turn_room plain given mark c (reverse h) p (reverse (provided h)) one.request gave.0 row one.asks gave.1
            (turns_at plain given mark provided IsLegal c stack h (stack.beginnings h (p ∷ []) legal))
            (answered_as c (provided h) (provided (h ++ p ∷ [])) p.entry.at p.entry.fresh one.request gave.0 one.added (stack.provider (h ++ p ∷ []) legal)) made)
      ]

  pub code_has_room : (none : M) (h : List (Pair A R)) (p : Pair A R) (row : CodeMark M) → IsLegal (h ++ p ∷ [])
      → code_made plain given mark none (marked_codes plain given mark none (reverse h)) (reverse h) p ≡ Some row
      → is_full most_rows code_mark_name row.code (live_rows code_life code_mark_begun p.entry.at (marked_codes plain given mark none (reverse h))) ≡ false
  code_has_room none h p row legal made =
      let N : Option OpReply → Type 0 = λ g. AddsGiven p.entry.at p.entry.fresh (plain p.entry.ask) g (provided h) (provided (h ++ p ∷ [])) in
      let G : Option OpReply → Option (CodeMark M) = λ g. code_row g (answer_mark plain given mark none (reverse h) p.entry.at (mark p.entry.ask) (plain p.entry.ask)) p.entry.at in
      let before : IsLegal h = stack.beginnings h (p ∷ []) legal in
      elim (option_cases (given p.reply)) [
        | inl gave ↦ (let unmade : ◌≡◌ {A = Option (CodeMark M)} None (Some row) = sym (ap G gave) ∙ made in cc)
        | inr gave ↦ (let one : AddsPair p.entry.at p.entry.fresh (plain p.entry.ask) gave.0 (provided h) (provided (h ++ p ∷ [])) = subst N gave.1 (stack.adds h p legal) in
            code_room plain given mark none c (reverse h) p (reverse (provided h)) one.request gave.0 row one.asks gave.1
            (turns_at plain given mark provided IsLegal c stack h before) (codes_at plain given mark provided IsLegal c stack none h before)
            (answered_as c (provided h) (provided (h ++ p ∷ [])) p.entry.at p.entry.fresh one.request gave.0 one.added (stack.provider (h ++ p ∷ []) legal)) made)
      ]
