-- The rows with marks are those of the provider, one by one, and each belongs to one authorization request.
use Rattle.std.proofs.Common.{◌≡◌, ℕ, Bool, true, false, not, ◌&&◌, cond, List, [], ◌∷◌, ◌++◌, length, reverse, filter_map, Option, Some, None, option_map, option_and_then, refl, ap, sym, ◌∙◌, subst, inl, inr}
use Rattle.std.proofs.lemmas.List.{reverse-append, reverse-reverse}
use Rattle.sso_base.specs.Words.{Word, is_word}
use Rattle.sso_base.specs.Rows.{put, row_of}
use Rattle.sso_base.specs.Legal.{IsLegalBy}
use Rattle.sso_base.specs.declared.history.Entry.{Entry}
use Rattle.sso_base.specs.declared.history.Pair.{Pair}
use Rattle.sso_base.proofs.Histories.{past_more, legal_reply}
use Rattle.sso_base.proofs.RowLaws.{option_cases, row_has_name}
use Rattle.client_registry.specs.Configuration.{Configuration}
use Rattle.auth_request.specs.declared.wish.Wish.{Wish}
use Rattle.auth_request.specs.declared.wish.Verdict.TheVariants as verdict
use Rattle.auth_answer.specs.declared.answer.Answer.{Answer}
use Rattle.code_grant.specs.declared.rows.TurnRow.{TurnRow}
use Rattle.code_grant.specs.declared.rows.SessionRow.{SessionRow}
use Rattle.code_grant.specs.declared.rows.CodeRow.{CodeRow}
use Rattle.code_grant.specs.Rows.{turn_name, turn_begun, code_name, code_begun}
use Rattle.oidc_words.specs.Lives.{turn_life, code_life}
use Rattle.held_rows.proofs.Found.{row_that_lives}
use Rattle.held_rows.proofs.Kept.{all_kept}
use Rattle.op_exchange.specs.declared.ask.OpAsk.{OpAsk}
use Rattle.op_exchange.specs.declared.ask.OpAsk.TheVariants as ask
use Rattle.op_exchange.specs.declared.reply.OpReply.{OpReply}
use Rattle.op_exchange.specs.declared.reply.OpReply.TheVariants as told
use Rattle.op_exchange.specs.Replied.{ends_turn, code_in}
use Rattle.op_exchange.specs.Values.{IsOpAsk}
use Rattle.op_answer.specs.Past.{OpPair, OpPast}
use Rattle.op_answer.specs.Turns.{turn_named, turn_started, turn_taken, turns, turn_of, live_turn}
use Rattle.op_answer.specs.Turns as turns_of
use Rattle.op_answer.specs.Sessions.{live_session, wish_by, session_used, session_of}
use Rattle.op_answer.specs.Codes.{code_named, is_tokens, code_made_by, codes_issued, code_of, held_code}
use Rattle.op_answer.specs.Codes as codes_of
use Rattle.op_answer.specs.Replies.{session_after}
use Rattle.op_answer.specs.Answering.{op_answer}
use Rattle.op_answer.specs.Legal.{IsLegalOp}
use Rattle.op_answer.specs.Causes.{AnsweredCause}
use Rattle.op_answer.proofs.Answers.{answers_have_a_cause}
use Rattle.op_core.specs.Making.{wish_found, session_found}
use Rattle.op_core.proofs.MadeRows.{code_makes}
use Rattle.core_stack.specs.declared.marks.TurnMark.{TurnMark}
use Rattle.core_stack.specs.declared.marks.CodeMark.{CodeMark}
use Rattle.core_stack.specs.Stacks.{is_shown, provider_pair, AddsPair, AddsGiven}
use Rattle.core_stack.specs.Rows.{turn_mark_name, turn_mark_begun, code_mark_name, code_mark_begun}
use Rattle.core_stack.specs.Marks.{is_wish, turn_row, named_in, turn_ended, turn_kept, mark_in_turn, turn_made, marked_turns, marked_turn, code_mark, code_row, code_kept, answer_mark, code_made, marked_codes, marked_code}
use Rattle.core_stack.specs.Asked.{TurnAsked, CodeAsked, IsOfTurn, IsOfCode}
use Rattle.core_stack.specs.Stacked.{IsStack}
use Rattle.core_stack.proofs.Both.{Both, BothIf, first_of_both, both_live, both_put, both_named, both_kept, both_later}

-- ---- replies that are not shown

started_hidden : (at : ℕ) (asked : OpAsk) (reply : OpReply) → is_shown reply ≡ false → turn_started at asked reply ≡ None
started_hidden at (ask.Authorize (verdict.Grant wish) b session) (told.LoginPage w browser again) hidden = cc
started_hidden at (ask.Authorize (verdict.Grant wish) b session) (told.ConsentPage w browser given client scopes) hidden = cc
started_hidden at asked reply hidden = refl

hidden_ends : (reply : OpReply) → is_shown reply ≡ false → ends_turn reply ≡ false
hidden_ends (told.Answered answer session) hidden = cc
hidden_ends (told.Refused refusal session) hidden = cc
hidden_ends reply hidden = refl

hidden_code : (reply : OpReply) → is_shown reply ≡ false → code_in reply ≡ None
hidden_code (told.Answered answer session) hidden = cc
hidden_code reply hidden = refl

-- a live turn is found by its word
live_named : (past : OpPast) (at : ℕ) (turn : Option Word) (row : TurnRow) → live_turn past at turn ≡ Some row → turn ≡ Some row.word
live_named past at None row live = cc
live_named past at (Some w) row live =
    let S : Word → Option Word = λ v. Some v in
    ap S (sym (row_has_name turn_name w (turns past) row (row_that_lives turn_life turn_begun at (row_of turn_name w (turns past)) row live)))

-- the provider gave the reply that its history says
pub answered_as : (c : Configuration) (before after : List OpPair) (at : ℕ) (fresh : List Word) (request : OpAsk) (r : OpReply) → after ≡ before ++ provider_pair at fresh request r ∷ [] → IsLegalOp c (reverse after)
    → op_answer c (reverse before) (record { at = at; fresh = fresh; ask = request }) ≡ r
answered_as c before after at fresh request r added legal =
    let q : OpPair = provider_pair at fresh request r in
    let V : List OpPair → OpPast = λ l. reverse l in
    let L : OpPast → Type 0 = λ o. IsLegalBy IsOpAsk (op_answer c) o in
    sym (legal_reply IsOpAsk (op_answer c) [] (reverse before) q (subst L (ap V added ∙ past_more before q) legal))

-- ---- one row that is kept

module _ {X Y : Type 0} (Rel : X → Y → Type 0) where
  one_of_two : (b : Bool) (x : X) (y changed : Y) → Rel x y → Rel x changed → BothIf Rel (Some x) (cond (not b) (Some y) (Some changed))
  one_of_two true x y changed one other = other
  one_of_two false x y changed one other = one

  kept_or_ended : (b c : Bool) (x : X) (y : Y) → b ≡ c → Rel x y → BothIf Rel (cond b None (Some x)) (cond (not c) (Some y) None)
  kept_or_ended true true x y same one = tt
  kept_or_ended false false x y same one = one
  kept_or_ended true false x y same one = cc
  kept_or_ended false true x y same one = cc

  left_both : (w : Option Word) (ends : Bool) (name called : Word) (x : X) (y changed : Y) → name ≡ called → Rel x y → Rel x changed
      → BothIf Rel (cond (is_word (cond ends w None) name) None (Some x)) (cond (not (is_word w called)) (Some y) (cond ends None (Some changed)))
  left_both w true name called x y changed same one other =
      let W : Word → Bool = λ v. is_word w v in
      kept_or_ended (is_word w name) (is_word w called) x y (ap W same) one
  left_both w false name called x y changed same one other = one_of_two (is_word w called) x y changed one other

-- ---- turns

module _ {A R M : Type 0} (plain : A → Option OpAsk) (given : R → Option OpReply) (mark : A → M) where
  asked_later : (p : Pair A R) (past : List (Pair A R)) (w : Word) (m : M) (wish : Wish) → TurnAsked plain given mark past w m wish → TurnAsked plain given mark (p ∷ past) w m wish
  asked_later p past w m wish a =
      let push : List (Pair A R) → List (Pair A R) = λ l. p ∷ l in
      record {
        later = p ∷ a.later;
        maker = a.maker;
        earlier = a.earlier;
        parts = ap push a.parts;
        browser = a.browser;
        presented = a.presented;
        asked = a.asked;
        page = a.page;
        answered = a.answered;
        turn_is = a.turn_is;
        mark_is = a.mark_is;
      }

  turn_later : (past : List (Pair A R)) (p : Pair A R) (x : TurnMark M) (y : TurnRow) → IsOfTurn plain given mark past x y → IsOfTurn plain given mark (p ∷ past) x y
  turn_later past p x y is = (is.0, is.1, asked_later p past y.word x.mark y.wish is.2)

  -- a consent page changes nothing of the turn that matters here
  taken_asked : (past : List (Pair A R)) (request : OpAsk) (r : OpReply) (x : TurnMark M) (y : TurnRow) → IsOfTurn plain given mark past x y
      → IsOfTurn plain given mark past x (turn_taken request r y)
  taken_asked past (ask.Login turn signed b presented) (told.ConsentPage w browser (Some session) client scopes) x y is = is
  taken_asked past request r x y is = is

  started : (past : List (Pair A R)) (p : Pair A R) (request : OpAsk) (r : OpReply) → plain p.entry.ask ≡ Some request → given p.reply ≡ Some r
      → BothIf (IsOfTurn plain given mark (p ∷ past)) (turn_row (Some r) (is_wish (Some request)) (mark p.entry.ask) p.entry.at) (turn_started p.entry.at request r)
  started past p (ask.Authorize (verdict.Grant wish) b session) (told.LoginPage w browser again) asks gave = (
    refl,
    refl,
    record {
      later = [];
      maker = p;
      earlier = past;
      parts = refl;
      browser = b;
      presented = session;
      asked = asks;
      page = told.LoginPage w browser again;
      answered = gave;
      turn_is = refl;
      mark_is = refl;
    },
  )
  started past p (ask.Authorize (verdict.Grant wish) b session) (told.ConsentPage w browser given' client scopes) asks gave = (
    refl,
    refl,
    record {
      later = [];
      maker = p;
      earlier = past;
      parts = refl;
      browser = b;
      presented = session;
      asked = asks;
      page = told.ConsentPage w browser given' client scopes;
      answered = gave;
      turn_is = refl;
      mark_is = refl;
    },
  )
  started past p request r asks gave = tt

  -- a turn is left by both or ended by both, where the provider gave the reply
  turn_left : (past : List (Pair A R)) (p : Pair A R) (before : OpPast) (request : OpAsk) (r : OpReply) (x : TurnMark M) (y : TurnRow)
      → plain p.entry.ask ≡ Some request → given p.reply ≡ Some r → IsOfTurn plain given mark past x y
      → BothIf (IsOfTurn plain given mark (p ∷ past)) (turn_kept plain given past p x) (turns_of.turn_kept before (provider_pair p.entry.at p.entry.fresh request r) y)
  turn_left past p before request r x y asks gave is =
      let right : Option TurnRow = turns_of.turn_kept before (provider_pair p.entry.at p.entry.fresh request r) y in
      let G : Option OpReply → Type 0 = λ g. BothIf (IsOfTurn plain given mark (p ∷ past)) (cond (is_word (turn_ended g (named_in (plain p.entry.ask))) x.turn) None (Some x)) right in
      let Q : Option OpAsk → Type 0 = λ a. BothIf (IsOfTurn plain given mark (p ∷ past)) (cond (is_word (turn_ended (Some r) (named_in a)) x.turn) None (Some x)) right in
      subst G (sym gave) (subst Q (sym asks)
      (left_both (IsOfTurn plain given mark (p ∷ past)) (turn_named request) (ends_turn r) x.turn y.word x y (turn_taken request r y) is.0
      (turn_later past p x y is) (turn_later past p x (turn_taken request r y) (taken_asked past request r x y is))))

  pub turn_starts : (past : List (Pair A R)) (p : Pair A R) (before : OpPast) (request : OpAsk) (r : OpReply) → plain p.entry.ask ≡ Some request → given p.reply ≡ Some r
      → BothIf (IsOfTurn plain given mark (p ∷ past)) (turn_made plain given mark (marked_turns plain given mark past) past p)
      (turns_of.turn_made (turns before) before (provider_pair p.entry.at p.entry.fresh request r))
  turn_starts past p before request r asks gave =
      let right : Option TurnRow = turn_started p.entry.at request r in
      let G : Option OpReply → Type 0 = λ g. BothIf (IsOfTurn plain given mark (p ∷ past)) (turn_row g (is_wish (plain p.entry.ask)) (mark p.entry.ask) p.entry.at) right in
      let Q : Option OpAsk → Type 0 = λ a. BothIf (IsOfTurn plain given mark (p ∷ past)) (turn_row (Some r) (is_wish a) (mark p.entry.ask) p.entry.at) right in
      subst G (sym gave) (subst Q (sym asks) (started past p request r asks gave))

  -- after a pair of the provider
  turns_given : (past : List (Pair A R)) (p : Pair A R) (before : OpPast) (request : OpAsk) (r : OpReply) → plain p.entry.ask ≡ Some request → given p.reply ≡ Some r
      → Both (IsOfTurn plain given mark past) (marked_turns plain given mark past) (turns before)
      → Both (IsOfTurn plain given mark (p ∷ past)) (marked_turns plain given mark (p ∷ past)) (turns (provider_pair p.entry.at p.entry.fresh request r ∷ before))
  turns_given past p before request r asks gave both =
      let q : OpPair = provider_pair p.entry.at p.entry.fresh request r in
      both_put (IsOfTurn plain given mark (p ∷ past)) turn_mark_name turn_name (λ x y is. is.0)
      (turn_made plain given mark (marked_turns plain given mark past) past p) (turns_of.turn_made (turns before) before q)
      (filter_map (turn_kept plain given past p) (marked_turns plain given mark past)) (filter_map (turns_of.turn_kept before q) (turns before))
      (turn_starts past p before request r asks gave)
      (both_kept (IsOfTurn plain given mark past) (IsOfTurn plain given mark (p ∷ past)) (turn_kept plain given past p) (turns_of.turn_kept before q)
      (λ x y is. turn_left past p before request r x y asks gave is) (marked_turns plain given mark past) (turns before) both)

  -- after a pair that begins and ends no turn
  turn_hidden : (past : List (Pair A R)) (p : Pair A R) (before : OpPast) (q : OpPair) (x : TurnMark M) (y : TurnRow) → given p.reply ≡ None → is_shown q.reply ≡ false
      → IsOfTurn plain given mark past x y → BothIf (IsOfTurn plain given mark (p ∷ past)) (turn_kept plain given past p x) (turns_of.turn_kept before q y)
  turn_hidden past p before q x y gave hidden is =
      let right : Option TurnRow = turns_of.turn_kept before q y in
      let taken : TurnRow = turn_taken q.entry.ask q.reply y in
      let G : Option OpReply → Type 0 = λ g. BothIf (IsOfTurn plain given mark (p ∷ past)) (cond (is_word (turn_ended g (named_in (plain p.entry.ask))) x.turn) None (Some x)) right in
      let E : Bool → Type 0 = λ b. BothIf (IsOfTurn plain given mark (p ∷ past)) (Some x) (cond (not (is_word (turn_named q.entry.ask) y.word)) (Some y) (cond b None (Some taken))) in
      subst G (sym gave) (subst E (sym (hidden_ends q.reply hidden))
      (one_of_two (IsOfTurn plain given mark (p ∷ past)) (is_word (turn_named q.entry.ask) y.word) x y taken
      (turn_later past p x y is) (turn_later past p x taken (taken_asked past q.entry.ask q.reply x y is))))

  turns_hidden : (past : List (Pair A R)) (p : Pair A R) (before : OpPast) (q : OpPair) → given p.reply ≡ None → is_shown q.reply ≡ false
      → Both (IsOfTurn plain given mark past) (marked_turns plain given mark past) (turns before)
      → Both (IsOfTurn plain given mark (p ∷ past)) (marked_turns plain given mark (p ∷ past)) (turns (q ∷ before))
  turns_hidden past p before q gave hidden both =
      let G : Option OpReply → Type 0 = λ g. BothIf (IsOfTurn plain given mark (p ∷ past)) (turn_row g (is_wish (plain p.entry.ask)) (mark p.entry.ask) p.entry.at) (turn_started q.entry.at q.entry.ask q.reply) in
      let N : Option TurnRow → Type 0 = λ o. BothIf (IsOfTurn plain given mark (p ∷ past)) None o in
      both_put (IsOfTurn plain given mark (p ∷ past)) turn_mark_name turn_name (λ x y is. is.0)
      (turn_made plain given mark (marked_turns plain given mark past) past p) (turns_of.turn_made (turns before) before q)
      (filter_map (turn_kept plain given past p) (marked_turns plain given mark past)) (filter_map (turns_of.turn_kept before q) (turns before))
      (subst G (sym gave) (subst N (sym (started_hidden q.entry.at q.entry.ask q.reply hidden)) tt))
      (both_kept (IsOfTurn plain given mark past) (IsOfTurn plain given mark (p ∷ past)) (turn_kept plain given past p) (turns_of.turn_kept before q)
      (λ x y is. turn_hidden past p before q x y gave hidden is) (marked_turns plain given mark past) (turns before) both)

  -- a pair to which the provider gave no reply leaves all rows
  pub turns_stay : (past : List (Pair A R)) (p : Pair A R) → given p.reply ≡ None → marked_turns plain given mark (p ∷ past) ≡ marked_turns plain given mark past
  turns_stay past p gave =
      let held : List (TurnMark M) = marked_turns plain given mark past in
      let P : Option OpReply → List (TurnMark M) = λ g. put turn_mark_name (turn_row g (is_wish (plain p.entry.ask)) (mark p.entry.ask) p.entry.at) (filter_map (turn_kept plain given past p) held) in
      let same : (row : TurnMark M) → turn_kept plain given past p row ≡ Some row = λ row.
      (let K : Option OpReply → Option (TurnMark M) = λ g. cond (is_word (turn_ended g (named_in (plain p.entry.ask))) row.turn) None (Some row) in ap K gave) in
      ap P gave ∙ all_kept (turn_kept plain given past p) held same

  turns_none : (past : List (Pair A R)) (p : Pair A R) (before after : List OpPair) → given p.reply ≡ None
      → AddsGiven p.entry.at p.entry.fresh (plain p.entry.ask) None before after
      → Both (IsOfTurn plain given mark past) (marked_turns plain given mark past) (turns (reverse before))
      → Both (IsOfTurn plain given mark (p ∷ past)) (marked_turns plain given mark (p ∷ past)) (turns (reverse after))
  turns_none past p before after gave (inl same) both =
      let T : List OpPair → Type 0 = λ l. Both (IsOfTurn plain given mark (p ∷ past)) (marked_turns plain given mark (p ∷ past)) (turns (reverse l)) in
      let U : List (TurnMark M) → Type 0 = λ l. Both (IsOfTurn plain given mark (p ∷ past)) l (turns (reverse before)) in
      subst T (sym same) (subst U (sym (turns_stay past p gave))
      (both_later (IsOfTurn plain given mark past) (IsOfTurn plain given mark (p ∷ past)) (λ x y is. turn_later past p x y is) (marked_turns plain given mark past) (turns (reverse before)) both))
  turns_none past p before after gave (inr more) both =
      let T : OpPast → Type 0 = λ o. Both (IsOfTurn plain given mark (p ∷ past)) (marked_turns plain given mark (p ∷ past)) (turns o) in
      let V : List OpPair → OpPast = λ l. reverse l in
      subst T (sym (ap V more.added ∙ past_more before more.pair)) (turns_hidden past p (reverse before) more.pair gave more.hidden both)

  turns_some : (past : List (Pair A R)) (p : Pair A R) (before after : List OpPair) (r : OpReply) → given p.reply ≡ Some r
      → AddsPair p.entry.at p.entry.fresh (plain p.entry.ask) r before after
      → Both (IsOfTurn plain given mark past) (marked_turns plain given mark past) (turns (reverse before))
      → Both (IsOfTurn plain given mark (p ∷ past)) (marked_turns plain given mark (p ∷ past)) (turns (reverse after))
  turns_some past p before after r gave adds both =
      let q : OpPair = provider_pair p.entry.at p.entry.fresh adds.request r in
      let T : OpPast → Type 0 = λ o. Both (IsOfTurn plain given mark (p ∷ past)) (marked_turns plain given mark (p ∷ past)) (turns o) in
      let V : List OpPair → OpPast = λ l. reverse l in
      subst T (sym (ap V adds.added ∙ past_more before q)) (turns_given past p (reverse before) adds.request r adds.asks gave both)

  -- after one more pair
  turns_more : (past : List (Pair A R)) (p : Pair A R) (before after : List OpPair)
      → AddsGiven p.entry.at p.entry.fresh (plain p.entry.ask) (given p.reply) before after
      → Both (IsOfTurn plain given mark past) (marked_turns plain given mark past) (turns (reverse before))
      → Both (IsOfTurn plain given mark (p ∷ past)) (marked_turns plain given mark (p ∷ past)) (turns (reverse after))
  turns_more past p before after adds both =
      let N : Option OpReply → Type 0 = λ g. AddsGiven p.entry.at p.entry.fresh (plain p.entry.ask) g before after in
      elim (option_cases (given p.reply)) [
        | inl gave ↦ turns_none past p before after gave (subst N gave adds) both
        | inr gave ↦ turns_some past p before after gave.0 gave.1 (subst N gave.1 adds) both
      ]

  -- the live turn of a word
  pub turn_found : (past : List (Pair A R)) (before : OpPast) (at : ℕ) (turn : Option Word) → Both (IsOfTurn plain given mark past) (marked_turns plain given mark past) (turns before)
      → BothIf (IsOfTurn plain given mark past) (marked_turn plain given mark past at turn) (live_turn before at turn)
  turn_found past before at turn both =
      let m : Option (TurnMark M) = option_and_then (λ (v : Word). row_of turn_mark_name v (marked_turns plain given mark past)) turn in
      both_live (IsOfTurn plain given mark past) turn_life turn_mark_begun turn_begun (λ x y is. is.1) at m (turn_of before turn)
      (both_named (IsOfTurn plain given mark past) turn_mark_name turn_name (λ x y is. is.0) turn (marked_turns plain given mark past) (turns before) both)

  -- ---- codes

  code_asked_later : (p : Pair A R) (past : List (Pair A R)) (w : Word) (m : M) (wish : Wish) → CodeAsked plain given mark past w m wish → CodeAsked plain given mark (p ∷ past) w m wish
  code_asked_later p past w m wish (inl a) =
      let push : List (Pair A R) → List (Pair A R) = λ l. p ∷ l in
      inl (record {
        later = p ∷ a.later;
        maker = a.maker;
        earlier = a.earlier;
        parts = ap push a.parts;
        browser = a.browser;
        presented = a.presented;
        asked = a.asked;
        response = a.response;
        answered = a.answered;
        code_is = a.code_is;
        mark_is = a.mark_is;
      })
  code_asked_later p past w m wish (inr a) =
      let push : List (Pair A R) → List (Pair A R) = λ l. p ∷ l in
      inr (record {
        later = p ∷ a.later;
        form = a.form;
        earlier = a.earlier;
        parts = ap push a.parts;
        request = a.request;
        asked = a.asked;
        response = a.response;
        answered = a.answered;
        code_is = a.code_is;
        turn = a.turn;
        named = a.named;
        begun = a.begun;
      })

  code_later : (past : List (Pair A R)) (p : Pair A R) (x : CodeMark M) (y : CodeRow) → IsOfCode plain given mark past x y → IsOfCode plain given mark (p ∷ past) x y
  code_later past p x y is = (is.0, is.1, code_asked_later p past y.word x.mark y.wish is.2)

  -- a code is kept as it is, or is spent
  spent_or_not : (past : List (Pair A R)) (b : Bool) (x : CodeMark M) (y : CodeRow) → IsOfCode plain given mark past x y
      → BothIf (IsOfCode plain given mark past) (Some x) (cond b (Some (record y { spent = true })) (Some y))
  spent_or_not past true x y is = is
  spent_or_not past false x y is = is

  code_left : (past : List (Pair A R)) (p : Pair A R) (before : OpPast) (q : OpPair) (x : CodeMark M) (y : CodeRow) → IsOfCode plain given mark past x y
      → BothIf (IsOfCode plain given mark (p ∷ past)) (code_kept past p x) (codes_of.code_kept before q y)
  code_left past p before q x y is = spent_or_not (p ∷ past) (is_word (code_named q.entry.ask) y.word && is_tokens q.reply) x y (code_later past p x y is)

  -- a response with a code makes it in both
  code_both : (past : List (Pair A R)) (p : Pair A R) (by : ℕ) (m : M) (code : Option Word) (wish : Wish) (session : SessionRow)
      → ((w : Word) → code ≡ Some w → CodeAsked plain given mark (p ∷ past) w m wish)
      → BothIf (IsOfCode plain given mark (p ∷ past)) (option_map (λ (w : Word). code_mark w m p.entry.at) code) (code_made_by by p.entry.at code (Some wish) (Some session))
  code_both past p by m None wish session each = tt
  code_both past p by m (Some w) wish session each = (refl, refl, each w refl)

module _ {A R M : Type 0} (plain : A → Option OpAsk) (given : R → Option OpReply) (mark : A → M) (none : M) where
  -- the turn of a form had the mark of its authorization request
  form_asked : (past : List (Pair A R)) (before : OpPast) (at : ℕ) (turn : Option Word) (row : TurnRow) → Both (IsOfTurn plain given mark past) (marked_turns plain given mark past) (turns before)
      → live_turn before at turn ≡ Some row → TurnAsked plain given mark past row.word (mark_in_turn none (marked_turn plain given mark past at turn)) row.wish
  form_asked past before at turn row both live =
      let found = first_of_both (IsOfTurn plain given mark past) (marked_turn plain given mark past at turn) (live_turn before at turn) row (turn_found plain given mark past before at turn both) live in
      let I : Option (TurnMark M) → M = λ o. mark_in_turn none o in
      let K : M → Type 0 = λ m. TurnAsked plain given mark past row.word m row.wish in
      subst K (sym (ap I found.1)) found.2.2

  -- the kept code of a word
  pub code_found : (past : List (Pair A R)) (before : OpPast) (at : ℕ) (w : Option Word) → Both (IsOfCode plain given mark past) (marked_codes plain given mark none past) (codes_issued before)
      → BothIf (IsOfCode plain given mark past) (marked_code plain given mark none past at w) (held_code before at w)
  code_found past before at w codes =
      let m : Option (CodeMark M) = option_and_then (λ (v : Word). row_of code_mark_name v (marked_codes plain given mark none past)) w in
      both_live (IsOfCode plain given mark past) code_life code_mark_begun code_begun (λ x y is. is.1) at m (code_of before w)
      (both_named (IsOfCode plain given mark past) code_mark_name code_name (λ x y is. is.0) w (marked_codes plain given mark none past) (codes_issued before) codes)

  -- of a response, by its cause
  answer_both : (c : Configuration) (past : List (Pair A R)) (p : Pair A R) (before : OpPast) (request : OpAsk) (answer : Answer) (session : Option Word)
      → plain p.entry.ask ≡ Some request → given p.reply ≡ Some (told.Answered answer session)
      → Both (IsOfTurn plain given mark past) (marked_turns plain given mark past) (turns before)
      → AnsweredCause c before (record { at = p.entry.at; fresh = p.entry.fresh; ask = request }) request answer session
      → BothIf (IsOfCode plain given mark (p ∷ past)) (option_map (λ (w : Word). code_mark w (answer_mark plain given mark none past p.entry.at (mark p.entry.ask) (Some request)) p.entry.at) answer.code)
      (code_made_by (length before) p.entry.at answer.code (wish_found before p.entry.at request) (session_found before (record { at = p.entry.at; fresh = p.entry.fresh; ask = request }) request))
  answer_both c past p before (ask.Authorize (verdict.Grant wish) browser presented) answer session asks gave both cause =
      let N : Option SessionRow → Type 0 = λ s. BothIf (IsOfCode plain given mark (p ∷ past)) (option_map (λ (w : Word). code_mark w (mark p.entry.ask) p.entry.at) answer.code)
      (code_made_by (length before) p.entry.at answer.code (Some wish) s) in
      subst N (sym cause.live) (code_both plain given mark past p (length before) (mark p.entry.ask) answer.code wish cause.session (λ w is. inl (record {
        later = [];
        maker = p;
        earlier = past;
        parts = refl;
        browser = browser;
        presented = presented;
        asked = asks;
        response = told.Answered answer session;
        answered = gave;
        code_is = is;
        mark_is = refl;
      })))
  answer_both c past p before (ask.Login turn (Some user) browser presented) answer session asks gave both cause =
      let m : M = mark_in_turn none (marked_turn plain given mark past p.entry.at turn) in
      let after : SessionRow = session_after before (record { at = p.entry.at; fresh = p.entry.fresh; ask = ask.Login turn (Some user) browser presented }) user presented in
      let W : Option TurnRow → Type 0 = λ o. BothIf (IsOfCode plain given mark (p ∷ past)) (option_map (λ (w : Word). code_mark w m p.entry.at) answer.code)
      (code_made_by (length before) p.entry.at answer.code (option_map (λ (row : TurnRow). row.wish) o) (Some after)) in
      subst W (sym cause.own.live) (code_both plain given mark past p (length before) m answer.code cause.row.wish after (λ w is. inr (record {
        later = [];
        form = p;
        earlier = past;
        parts = refl;
        request = ask.Login turn (Some user) browser presented;
        asked = asks;
        response = told.Answered answer session;
        answered = gave;
        code_is = is;
        turn = cause.row.word;
        named = live_named before p.entry.at turn cause.row cause.own.live;
        begun = form_asked past before p.entry.at turn cause.row both cause.own.live;
      })))
  answer_both c past p before (ask.Consent turn true browser presented) answer session asks gave both cause =
      let m : M = mark_in_turn none (marked_turn plain given mark past p.entry.at turn) in
      let W : Option TurnRow → Type 0 = λ o. BothIf (IsOfCode plain given mark (p ∷ past)) (option_map (λ (w : Word). code_mark w m p.entry.at) answer.code)
      (code_made_by (length before) p.entry.at answer.code (option_map (λ (row : TurnRow). row.wish) o)
      (option_and_then (λ (row : TurnRow). live_session before p.entry.at row.session) o)) in
      let N : Option SessionRow → Type 0 = λ s. BothIf (IsOfCode plain given mark (p ∷ past)) (option_map (λ (w : Word). code_mark w m p.entry.at) answer.code)
      (code_made_by (length before) p.entry.at answer.code (Some cause.row.wish) s) in
      subst W (sym cause.own.own.live) (subst N (sym cause.own.live) (code_both plain given mark past p (length before) m answer.code cause.row.wish cause.session (λ w is. inr (record {
        later = [];
        form = p;
        earlier = past;
        parts = refl;
        request = ask.Consent turn true browser presented;
        asked = asks;
        response = told.Answered answer session;
        answered = gave;
        code_is = is;
        turn = cause.row.word;
        named = live_named before p.entry.at turn cause.row cause.own.own.live;
        begun = form_asked past before p.entry.at turn cause.row both cause.own.own.live;
      }))))
  answer_both c past p before other answer session asks gave both cause = absurd cause

  -- of any reply that the provider gave
  reply_both : (c : Configuration) (past : List (Pair A R)) (p : Pair A R) (before : OpPast) (request : OpAsk) (r : OpReply)
      → plain p.entry.ask ≡ Some request → given p.reply ≡ Some r → Both (IsOfTurn plain given mark past) (marked_turns plain given mark past) (turns before)
      → op_answer c before (record { at = p.entry.at; fresh = p.entry.fresh; ask = request }) ≡ r
      → BothIf (IsOfCode plain given mark (p ∷ past)) (code_row (Some r) (answer_mark plain given mark none past p.entry.at (mark p.entry.ask) (Some request)) p.entry.at)
      (code_made_by (length before) p.entry.at (code_in r) (wish_found before p.entry.at request) (session_found before (record { at = p.entry.at; fresh = p.entry.fresh; ask = request }) request))
  reply_both c past p before request (told.Answered answer session) asks gave both led =
      let e : Entry OpAsk = record { at = p.entry.at; fresh = p.entry.fresh; ask = request } in
      answer_both c past p before request answer session asks gave both (answers_have_a_cause c before e answer session led)
  reply_both c past p before request r asks gave both led = tt

  pub code_starts : (c : Configuration) (past : List (Pair A R)) (p : Pair A R) (before : OpPast) (request : OpAsk) (r : OpReply)
      → plain p.entry.ask ≡ Some request → given p.reply ≡ Some r → Both (IsOfTurn plain given mark past) (marked_turns plain given mark past) (turns before)
      → op_answer c before (record { at = p.entry.at; fresh = p.entry.fresh; ask = request }) ≡ r
      → BothIf (IsOfCode plain given mark (p ∷ past)) (code_made plain given mark none (marked_codes plain given mark none past) past p)
      (codes_of.code_made (codes_issued before) before (provider_pair p.entry.at p.entry.fresh request r))
  code_starts c past p before request r asks gave both led =
      let e : Entry OpAsk = record { at = p.entry.at; fresh = p.entry.fresh; ask = request } in
      let right : Option CodeRow = codes_of.code_made (codes_issued before) before (provider_pair p.entry.at p.entry.fresh request r) in
      let G : Option OpReply → Type 0 = λ g. BothIf (IsOfCode plain given mark (p ∷ past)) (code_row g (answer_mark plain given mark none past p.entry.at (mark p.entry.ask) (plain p.entry.ask)) p.entry.at) right in
      let Q : Option OpAsk → Type 0 = λ a. BothIf (IsOfCode plain given mark (p ∷ past)) (code_row (Some r) (answer_mark plain given mark none past p.entry.at (mark p.entry.ask) a) p.entry.at) right in
      let P : Option CodeRow → Type 0 = λ o. BothIf (IsOfCode plain given mark (p ∷ past)) (code_row (Some r) (answer_mark plain given mark none past p.entry.at (mark p.entry.ask) (Some request)) p.entry.at) o in
      subst G (sym gave) (subst Q (sym asks) (subst P (sym (code_makes c before e r led)) (reply_both c past p before request r asks gave both led)))

  -- after a pair of the provider
  codes_given : (c : Configuration) (past : List (Pair A R)) (p : Pair A R) (before : OpPast) (request : OpAsk) (r : OpReply) → plain p.entry.ask ≡ Some request → given p.reply ≡ Some r
      → op_answer c before (record { at = p.entry.at; fresh = p.entry.fresh; ask = request }) ≡ r
      → Both (IsOfTurn plain given mark past) (marked_turns plain given mark past) (turns before)
      → Both (IsOfCode plain given mark past) (marked_codes plain given mark none past) (codes_issued before)
      → Both (IsOfCode plain given mark (p ∷ past)) (marked_codes plain given mark none (p ∷ past)) (codes_issued (provider_pair p.entry.at p.entry.fresh request r ∷ before))
  codes_given c past p before request r asks gave led both codes =
      let q : OpPair = provider_pair p.entry.at p.entry.fresh request r in
      both_put (IsOfCode plain given mark (p ∷ past)) code_mark_name code_name (λ x y is. is.0)
      (code_made plain given mark none (marked_codes plain given mark none past) past p) (codes_of.code_made (codes_issued before) before q)
      (filter_map (code_kept past p) (marked_codes plain given mark none past)) (filter_map (codes_of.code_kept before q) (codes_issued before))
      (code_starts c past p before request r asks gave both led)
      (both_kept (IsOfCode plain given mark past) (IsOfCode plain given mark (p ∷ past)) (code_kept past p) (codes_of.code_kept before q)
      (λ x y is. code_left plain given mark past p before q x y is) (marked_codes plain given mark none past) (codes_issued before) codes)

  -- after a pair that makes none
  codes_hidden : (past : List (Pair A R)) (p : Pair A R) (before : OpPast) (q : OpPair) → given p.reply ≡ None → is_shown q.reply ≡ false
      → Both (IsOfCode plain given mark past) (marked_codes plain given mark none past) (codes_issued before)
      → Both (IsOfCode plain given mark (p ∷ past)) (marked_codes plain given mark none (p ∷ past)) (codes_issued (q ∷ before))
  codes_hidden past p before q gave hidden codes =
      let right : Option CodeRow = codes_of.code_made (codes_issued before) before q in
      let G : Option OpReply → Type 0 = λ g. BothIf (IsOfCode plain given mark (p ∷ past)) (code_row g (answer_mark plain given mark none past p.entry.at (mark p.entry.ask) (plain p.entry.ask)) p.entry.at) right in
      let N : Option CodeRow → Type 0 = λ o. BothIf (IsOfCode plain given mark (p ∷ past)) None o in
      let C : Option Word → Option CodeRow = λ w. code_made_by (length before) q.entry.at w (wish_by before q.entry.ask)
      (session_of (q ∷ before) (session_used before q.entry.ask q.reply)) in
      let unmade : right ≡ None = ap C (hidden_code q.reply hidden) in
      both_put (IsOfCode plain given mark (p ∷ past)) code_mark_name code_name (λ x y is. is.0)
      (code_made plain given mark none (marked_codes plain given mark none past) past p) right
      (filter_map (code_kept past p) (marked_codes plain given mark none past)) (filter_map (codes_of.code_kept before q) (codes_issued before))
      (subst G (sym gave) (subst N (sym unmade) tt))
      (both_kept (IsOfCode plain given mark past) (IsOfCode plain given mark (p ∷ past)) (code_kept past p) (codes_of.code_kept before q)
      (λ x y is. code_left plain given mark past p before q x y is) (marked_codes plain given mark none past) (codes_issued before) codes)

  -- a pair to which the provider gave no reply leaves all rows
  pub codes_stay : (past : List (Pair A R)) (p : Pair A R) → given p.reply ≡ None → marked_codes plain given mark none (p ∷ past) ≡ marked_codes plain given mark none past
  codes_stay past p gave =
      let held : List (CodeMark M) = marked_codes plain given mark none past in
      let P : Option OpReply → List (CodeMark M) = λ g. put code_mark_name (code_row g (answer_mark plain given mark none past p.entry.at (mark p.entry.ask) (plain p.entry.ask)) p.entry.at) (filter_map (code_kept past p) held) in
      ap P gave ∙ all_kept (code_kept past p) held (λ row. refl)

  codes_none : (past : List (Pair A R)) (p : Pair A R) (before after : List OpPair) → given p.reply ≡ None
      → AddsGiven p.entry.at p.entry.fresh (plain p.entry.ask) None before after
      → Both (IsOfCode plain given mark past) (marked_codes plain given mark none past) (codes_issued (reverse before))
      → Both (IsOfCode plain given mark (p ∷ past)) (marked_codes plain given mark none (p ∷ past)) (codes_issued (reverse after))
  codes_none past p before after gave (inl same) codes =
      let T : List OpPair → Type 0 = λ l. Both (IsOfCode plain given mark (p ∷ past)) (marked_codes plain given mark none (p ∷ past)) (codes_issued (reverse l)) in
      let U : List (CodeMark M) → Type 0 = λ l. Both (IsOfCode plain given mark (p ∷ past)) l (codes_issued (reverse before)) in
      subst T (sym same) (subst U (sym (codes_stay past p gave))
      (both_later (IsOfCode plain given mark past) (IsOfCode plain given mark (p ∷ past)) (λ x y is. code_later plain given mark past p x y is) (marked_codes plain given mark none past) (codes_issued (reverse before)) codes))
  codes_none past p before after gave (inr more) codes =
      let T : OpPast → Type 0 = λ o. Both (IsOfCode plain given mark (p ∷ past)) (marked_codes plain given mark none (p ∷ past)) (codes_issued o) in
      let V : List OpPair → OpPast = λ l. reverse l in
      subst T (sym (ap V more.added ∙ past_more before more.pair)) (codes_hidden past p (reverse before) more.pair gave more.hidden codes)

  codes_some : (c : Configuration) (past : List (Pair A R)) (p : Pair A R) (before after : List OpPair) (r : OpReply) → given p.reply ≡ Some r
      → AddsPair p.entry.at p.entry.fresh (plain p.entry.ask) r before after → IsLegalOp c (reverse after)
      → Both (IsOfTurn plain given mark past) (marked_turns plain given mark past) (turns (reverse before))
      → Both (IsOfCode plain given mark past) (marked_codes plain given mark none past) (codes_issued (reverse before))
      → Both (IsOfCode plain given mark (p ∷ past)) (marked_codes plain given mark none (p ∷ past)) (codes_issued (reverse after))
  codes_some c past p before after r gave adds legal both codes =
      let q : OpPair = provider_pair p.entry.at p.entry.fresh adds.request r in
      let V : List OpPair → OpPast = λ l. reverse l in
      let T : OpPast → Type 0 = λ o. Both (IsOfCode plain given mark (p ∷ past)) (marked_codes plain given mark none (p ∷ past)) (codes_issued o) in
      subst T (sym (ap V adds.added ∙ past_more before q))
      (codes_given c past p (reverse before) adds.request r adds.asks gave (answered_as c before after p.entry.at p.entry.fresh adds.request r adds.added legal) both codes)

  -- after one more pair
  codes_more : (c : Configuration) (past : List (Pair A R)) (p : Pair A R) (before after : List OpPair)
      → AddsGiven p.entry.at p.entry.fresh (plain p.entry.ask) (given p.reply) before after → IsLegalOp c (reverse after)
      → Both (IsOfTurn plain given mark past) (marked_turns plain given mark past) (turns (reverse before))
      → Both (IsOfCode plain given mark past) (marked_codes plain given mark none past) (codes_issued (reverse before))
      → Both (IsOfCode plain given mark (p ∷ past)) (marked_codes plain given mark none (p ∷ past)) (codes_issued (reverse after))
  codes_more c past p before after adds legal both codes =
      let N : Option OpReply → Type 0 = λ g. AddsGiven p.entry.at p.entry.fresh (plain p.entry.ask) g before after in
      elim (option_cases (given p.reply)) [
        | inl gave ↦ codes_none past p before after gave (subst N gave adds) codes
        | inr gave ↦ codes_some c past p before after gave.0 gave.1 (subst N gave.1 adds) legal both codes
      ]

-- ---- all rows, over the legal histories of a core

module _ {A R M : Type 0} (plain : A → Option OpAsk) (given : R → Option OpReply) (mark : A → M) (provided : List (Pair A R) → List OpPair) (IsLegal : List (Pair A R) → Type 0) (c : Configuration)
    (stack : IsStack plain given provided IsLegal c) where
  pub turns_same : (past : List (Pair A R)) → IsLegal (reverse past)
      → Both (IsOfTurn plain given mark past) (marked_turns plain given mark past) (turns (reverse (provided (reverse past))))
  turns_same [] legal =
      let T : List OpPair → Type 0 = λ l. Both (IsOfTurn plain given mark []) [] (turns (reverse l)) in
      subst T (sym stack.begins) tt
  turns_same (p ∷ past) legal =
      let back : reverse (p ∷ past) ≡ reverse past ++ p ∷ [] = reverse-append (p ∷ []) past in
      let L : List (Pair A R) → Type 0 = λ l. IsLegal l in
      let T : List (Pair A R) → Type 0 = λ l. Both (IsOfTurn plain given mark (p ∷ past)) (marked_turns plain given mark (p ∷ past)) (turns (reverse (provided l))) in
      let here : IsLegal (reverse past ++ p ∷ []) = subst L back legal in
      subst T (sym back)
      (turns_more plain given mark past p (provided (reverse past)) (provided (reverse past ++ p ∷ [])) (stack.adds (reverse past) p here)
      (turns_same past (stack.beginnings (reverse past) (p ∷ []) here)))

  pub codes_same : (none : M) (past : List (Pair A R)) → IsLegal (reverse past)
      → Both (IsOfCode plain given mark past) (marked_codes plain given mark none past) (codes_issued (reverse (provided (reverse past))))
  codes_same none [] legal =
      let T : List OpPair → Type 0 = λ l. Both (IsOfCode plain given mark []) [] (codes_issued (reverse l)) in
      subst T (sym stack.begins) tt
  codes_same none (p ∷ past) legal =
      let back : reverse (p ∷ past) ≡ reverse past ++ p ∷ [] = reverse-append (p ∷ []) past in
      let L : List (Pair A R) → Type 0 = λ l. IsLegal l in
      let T : List (Pair A R) → Type 0 = λ l. Both (IsOfCode plain given mark (p ∷ past)) (marked_codes plain given mark none (p ∷ past)) (codes_issued (reverse (provided l))) in
      let here : IsLegal (reverse past ++ p ∷ []) = subst L back legal in
      let before : IsLegal (reverse past) = stack.beginnings (reverse past) (p ∷ []) here in
      subst T (sym back)
      (codes_more plain given mark none c past p (provided (reverse past)) (provided (reverse past ++ p ∷ [])) (stack.adds (reverse past) p here) (stack.provider (reverse past ++ p ∷ []) here)
      (turns_same past before) (codes_same none past before))

  -- the same over a history, oldest pair first
  pub turns_at : (h : List (Pair A R)) → IsLegal h → Both (IsOfTurn plain given mark (reverse h)) (marked_turns plain given mark (reverse h)) (turns (reverse (provided h)))
  turns_at h legal =
      let L : List (Pair A R) → Type 0 = λ l. IsLegal l in
      let T : List (Pair A R) → Type 0 = λ l. Both (IsOfTurn plain given mark (reverse h)) (marked_turns plain given mark (reverse h)) (turns (reverse (provided l))) in
      subst T (reverse-reverse h) (turns_same (reverse h) (subst L (sym (reverse-reverse h)) legal))

  pub codes_at : (none : M) (h : List (Pair A R)) → IsLegal h → Both (IsOfCode plain given mark (reverse h)) (marked_codes plain given mark none (reverse h)) (codes_issued (reverse (provided h)))
  codes_at none h legal =
      let L : List (Pair A R) → Type 0 = λ l. IsLegal l in
      let T : List (Pair A R) → Type 0 = λ l. Both (IsOfCode plain given mark (reverse h)) (marked_codes plain given mark none (reverse h)) (codes_issued (reverse (provided l))) in
      subst T (reverse-reverse h) (codes_same none (reverse h) (subst L (sym (reverse-reverse h)) legal))
