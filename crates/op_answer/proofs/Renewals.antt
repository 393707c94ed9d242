-- The session that a right password leaves is new, or the presented one.
use Rattle.std.proofs.Common.{◌≡◌, ℕ, ◌==◌, Option, Some, None, option_and_then, refl, sym, ◌∙◌, ap, ◌⊎◌, inl, inr}
use Rattle.sso_base.specs.Words.{Word, fresh_word}
use Rattle.sso_base.specs.Rows.{row_of}
use Rattle.sso_base.specs.declared.history.Entry.{Entry}
use Rattle.sso_base.proofs.RowLaws.{bytes_same}
use Rattle.held_rows.proofs.Found.{if_some, row_that_lives}
use Rattle.held_rows.proofs.HeldLaws.{row_of_named}
use Rattle.code_grant.specs.declared.rows.SessionRow.{SessionRow}
use Rattle.code_grant.specs.Rows.{session_name, session_begun}
use Rattle.oidc_words.specs.Lives.{session_life}
use Rattle.op_exchange.specs.declared.ask.OpAsk.{OpAsk}
use Rattle.op_answer.specs.Past.{OpPast}
use Rattle.op_answer.specs.Sessions.{sessions, live_in, live_session}
use Rattle.op_answer.specs.Replies.{if_of_user, session_renewed, session_left, session_after}

module _ (past : OpPast) (at : ℕ) where
  -- a renewed session is the live one of its word
  of_user : (user : ℕ) (found : Option SessionRow) (s : SessionRow) → option_and_then (if_of_user user) found ≡ Some s → found ≡ Some s
  of_user user None s h = cc
  of_user user (Some found) s h = if_some (found.user == user) found s h

  live_named : (v w : Word) (s : SessionRow) → live_in at v (sessions past) ≡ Some s → w ≡ s.word → live_in at w (sessions past) ≡ Some s
  live_named v w s live is =
      let row = row_that_lives session_life session_begun at (row_of session_name v (sessions past)) s live in
      let named : s.word ≡ v = bytes_same s.word v (row_of_named session_name v (sessions past) s row) in
      let L : Word → Option SessionRow = λ x. live_in at x (sessions past) in
      ap L (is ∙ named) ∙ live

  pub renewed_lives : (user : ℕ) (presented : Option Word) (s : SessionRow) (w : Word) → session_renewed past at user presented ≡ Some s → w ≡ s.word
      → live_in at w (sessions past) ≡ Some s
  renewed_lives user None s w h is = cc
  renewed_lives user (Some v) s w h is = live_named v w s (of_user user (live_session past at (Some v)) s h) is

  -- where none of its word lives, its word was drawn
  new_is_drawn_by : (e : Entry OpAsk) (user : ℕ) (presented : Option Word) (w : Word) (renewed : Option SessionRow) → session_renewed past at user presented ≡ renewed
      → w ≡ (session_left e user renewed).word → live_in at w (sessions past) ≡ None → w ≡ fresh_word e.fresh 0
  new_is_drawn_by e user presented w None is word_is none = word_is
  new_is_drawn_by e user presented w (Some s) is word_is none = (let k : Some s ≡ None = sym (renewed_lives user presented s w is word_is) ∙ none in cc)

  pub new_is_drawn : (e : Entry OpAsk) (user : ℕ) (presented : Option Word) (w : Word) → w ≡ (session_left e user (session_renewed past at user presented)).word
      → live_in at w (sessions past) ≡ None → w ≡ fresh_word e.fresh 0
  new_is_drawn e user presented w word_is none = new_is_drawn_by e user presented w (session_renewed past at user presented) refl word_is none

-- ---- what a right password leaves

abbrev pub new_session : Entry OpAsk → ℕ → SessionRow
new_session e user = session_left e user None

-- the presented session lives, is of the user and has a new time
pub record Renewed (past : OpPast) (e : Entry OpAsk) (user : ℕ) (presented : Option Word) (left : SessionRow) : Type 0 where
  pub before : SessionRow
  pub live : live_session past e.at presented ≡ Some before
  pub left_is : left ≡ record before { auth_time = e.at }

left_by : (past : OpPast) (e : Entry OpAsk) (user : ℕ) (presented : Option Word) (renewed : Option SessionRow) → session_renewed past e.at user presented ≡ renewed
    → (session_left e user renewed ≡ new_session e user) ⊎ Renewed past e user presented (session_left e user renewed)
left_by past e user presented None is = inl refl
left_by past e user presented (Some before) is = inr (record { before = before; live = of_user past e.at user (live_session past e.at presented) before is; left_is = refl })

pub left_cases : (past : OpPast) (e : Entry OpAsk) (user : ℕ) (presented : Option Word)
    → (session_after past e user presented ≡ new_session e user) ⊎ Renewed past e user presented (session_after past e user presented)
left_cases past e user presented = left_by past e user presented (session_renewed past e.at user presented) refl
