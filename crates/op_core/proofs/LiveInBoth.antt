-- For each table of the provider: what lives in it at a moment is what lives after the past.
use Rattle.std.proofs.Common.{◌≡◌, ◌≤◌, ℕ, Bool, true, nat_lt, List, length, Option, Some, IfSome, option_and_then, reverse, sym, ◌∙◌, ap, subst}
use Rattle.std.specs.List.{list_any}
use Rattle.std.specs.Str.{bytes_eq}
use Rattle.sso_base.specs.Words.{Word}
use Rattle.sso_base.specs.Rows.{row_of, if_lives, live_rows}
use Rattle.sso_base.specs.Legal.{last_moment}
use Rattle.sso_base.proofs.RowLaws.{rows_distinct}
use Rattle.client_registry.specs.Configuration.{Configuration}
use Rattle.code_grant.specs.declared.rows.TurnRow.{TurnRow}
use Rattle.code_grant.specs.declared.rows.SessionRow.{SessionRow}
use Rattle.code_grant.specs.declared.rows.CodeRow.{CodeRow}
use Rattle.code_grant.specs.declared.rows.TokenRow.{TokenRow}
use Rattle.code_grant.specs.Rows.{turn_name, turn_begun, session_name, session_begun, code_name, code_begun, access_name, access_begun}
use Rattle.oidc_words.specs.Lives.{turn_life, session_life, code_life, access_life}
use Rattle.held_rows.specs.Held.{most_rows, has_room_for_one, IsFull}
use Rattle.code_grant.specs.Tables.{Tables, AreTurns, AreSessions, AreCodes, AreTokens}
use Rattle.op_answer.specs.Past.{OpPair, OpPast}
use Rattle.op_core.specs.Providing.{Providing, past_of}
use Rattle.op_answer.specs.Turns.{turns, turn_made, turn_kept, live_turns, live_turn, has_turn_browser}
use Rattle.op_answer.specs.Sessions.{sessions, session_made, session_kept, live_sessions, live_session}
use Rattle.op_answer.specs.Codes.{codes_issued, code_made, code_kept, held_codes, held_code}
use Rattle.op_answer.specs.AccessTokens.{accesses, access_made, access_kept, live_accesses, live_access_token}
use Rattle.op_tables.specs.Agreeing.{is_own_turn, is_own_session, is_own_code, is_own_token}
use Rattle.op_core.specs.Keeps.{KeepsTables}
use Rattle.op_answer.proofs.KeptNames.{turn_names, session_names, code_names, access_names}
use Rattle.held_rows.proofs.Found.{same_later, found_in_both, living_good}

module _ (c : Configuration) (history : List OpPair) (t : Tables) (keeps : KeepsTables c history t) (p : Providing) (view : ◌≡◌ {A = Providing} (record { registry = c; history = history; tables = t }) p) (at : ℕ) (order : last_moment (past_of p) ≤ at) where
  past_is : reverse history ≡ past_of p
  past_is = ap past_of view

  in_order : last_moment (reverse history) ≤ at
  in_order = let B : OpPast → Type 0 = λ q. last_moment q ≤ at in subst B (sym past_is) order

  pub turns_live : live_rows turn_life turn_begun at t.turns ≡ live_turns (past_of p) at
  turns_live =
      let L : OpPast → List TurnRow = λ q. live_turns q at in
      same_later turn_name turn_life turn_begun (last_moment (reverse history)) at in_order t.turns (turns (reverse history)) keeps.agrees.turns ∙ ap L past_is

  pub turn_live : (word : Option Word) (w : Word) → word ≡ Some w → AreTurns t.turns → option_and_then (if_lives turn_life turn_begun at) (row_of turn_name w t.turns) ≡ live_turn (past_of p) at word
  turn_live word w is held =
      let L : OpPast → Option TurnRow = λ q. live_turn q at (Some w) in
      let M : Option Word → Option TurnRow = λ v. live_turn (past_of p) at v in
      found_in_both turn_name turn_life turn_begun (last_moment (reverse history)) at in_order w t.turns (turns (reverse history)) held.distinct
      (rows_distinct turn_name turn_made turn_kept turn_names (reverse history)) keeps.agrees.turns
      ∙ ap L past_is ∙ ap M (sym is)

  pub turn_own : (w : Word) (o : Option TurnRow)
      → o ≡ option_and_then (if_lives turn_life turn_begun at) (row_of turn_name w t.turns)
      → IfSome o (λ row. is_own_turn p.registry row ≡ true)
  turn_own w o found =
      let O : Providing → Type 0 = λ q. IfSome o (λ row. is_own_turn q.registry row ≡ true) in
      subst O view (living_good turn_name turn_life turn_begun at (is_own_turn c) w t.turns o keeps.own.turns found)

  pub sessions_live : live_rows session_life session_begun at t.sessions ≡ live_sessions (past_of p) at
  sessions_live =
      let L : OpPast → List SessionRow = λ q. live_sessions q at in
      same_later session_name session_life session_begun (last_moment (reverse history)) at in_order t.sessions (sessions (reverse history)) keeps.agrees.sessions ∙ ap L past_is

  pub session_live : (word : Option Word) (w : Word) → word ≡ Some w → AreSessions t.sessions → option_and_then (if_lives session_life session_begun at) (row_of session_name w t.sessions) ≡ live_session (past_of p) at word
  session_live word w is held =
      let L : OpPast → Option SessionRow = λ q. live_session q at (Some w) in
      let M : Option Word → Option SessionRow = λ v. live_session (past_of p) at v in
      found_in_both session_name session_life session_begun (last_moment (reverse history)) at in_order w t.sessions (sessions (reverse history)) held.distinct
      (rows_distinct session_name session_made session_kept session_names (reverse history)) keeps.agrees.sessions
      ∙ ap L past_is ∙ ap M (sym is)

  pub session_own : (w : Word) (o : Option SessionRow)
      → o ≡ option_and_then (if_lives session_life session_begun at) (row_of session_name w t.sessions)
      → IfSome o (λ row. is_own_session p.registry row ≡ true)
  session_own w o found =
      let O : Providing → Type 0 = λ q. IfSome o (λ row. is_own_session q.registry row ≡ true) in
      subst O view (living_good session_name session_life session_begun at (is_own_session c) w t.sessions o keeps.own.sessions found)

  pub codes_live : live_rows code_life code_begun at t.codes ≡ held_codes (past_of p) at
  codes_live =
      let L : OpPast → List CodeRow = λ q. held_codes q at in
      same_later code_name code_life code_begun (last_moment (reverse history)) at in_order t.codes (codes_issued (reverse history)) keeps.agrees.codes ∙ ap L past_is

  pub code_live : (word : Option Word) (w : Word) → word ≡ Some w → AreCodes t.codes → option_and_then (if_lives code_life code_begun at) (row_of code_name w t.codes) ≡ held_code (past_of p) at word
  code_live word w is held =
      let L : OpPast → Option CodeRow = λ q. held_code q at (Some w) in
      let M : Option Word → Option CodeRow = λ v. held_code (past_of p) at v in
      found_in_both code_name code_life code_begun (last_moment (reverse history)) at in_order w t.codes (codes_issued (reverse history)) held.distinct
      (rows_distinct code_name code_made code_kept code_names (reverse history)) keeps.agrees.codes
      ∙ ap L past_is ∙ ap M (sym is)

  pub code_own : (w : Word) (o : Option CodeRow)
      → o ≡ option_and_then (if_lives code_life code_begun at) (row_of code_name w t.codes)
      → IfSome o (λ row. is_own_code p.registry row ≡ true)
  code_own w o found =
      let O : Providing → Type 0 = λ q. IfSome o (λ row. is_own_code q.registry row ≡ true) in
      subst O view (living_good code_name code_life code_begun at (is_own_code c) w t.codes o keeps.own.codes found)

  pub tokens_live : live_rows access_life access_begun at t.tokens ≡ live_accesses (past_of p) at
  tokens_live =
      let L : OpPast → List TokenRow = λ q. live_accesses q at in
      same_later access_name access_life access_begun (last_moment (reverse history)) at in_order t.tokens (accesses (reverse history)) keeps.agrees.tokens ∙ ap L past_is

  pub token_live : (w : Word) → AreTokens t.tokens → option_and_then (if_lives access_life access_begun at) (row_of access_name w t.tokens) ≡ live_access_token (past_of p) at w
  token_live w held =
      let L : OpPast → Option TokenRow = λ q. live_access_token q at w in
      found_in_both access_name access_life access_begun (last_moment (reverse history)) at in_order w t.tokens (accesses (reverse history)) held.distinct
      (rows_distinct access_name access_made access_kept access_names (reverse history)) keeps.agrees.tokens
      ∙ ap L past_is

  pub token_own : (w : Word) (o : Option TokenRow)
      → o ≡ option_and_then (if_lives access_life access_begun at) (row_of access_name w t.tokens)
      → IfSome o (λ row. is_own_token p.registry row ≡ true)
  token_own w o found =
      let O : Providing → Type 0 = λ q. IfSome o (λ row. is_own_token q.registry row ≡ true) in
      subst O view (living_good access_name access_life access_begun at (is_own_token c) w t.tokens o keeps.own.tokens found)

  pub turns_room : has_room_for_one turn_life turn_begun at t.turns ≡ nat_lt (length (live_turns (past_of p) at)) most_rows
  turns_room = let N : List TurnRow → Bool = λ rows. nat_lt (length rows) most_rows in ap N turns_live

  pub sessions_room : has_room_for_one session_life session_begun at t.sessions ≡ nat_lt (length (live_sessions (past_of p) at)) most_rows
  sessions_room = let N : List SessionRow → Bool = λ rows. nat_lt (length rows) most_rows in ap N sessions_live

  pub codes_room : has_room_for_one code_life code_begun at t.codes ≡ nat_lt (length (held_codes (past_of p) at)) most_rows
  codes_room = let N : List CodeRow → Bool = λ rows. nat_lt (length rows) most_rows in ap N codes_live

  pub tokens_room : has_room_for_one access_life access_begun at t.tokens ≡ nat_lt (length (live_accesses (past_of p) at)) most_rows
  tokens_room = let N : List TokenRow → Bool = λ rows. nat_lt (length rows) most_rows in ap N tokens_live

  pub sessions_full : IsFull session_life session_begun at t.sessions → length (live_sessions (past_of p) at) ≡ most_rows
  sessions_full is = let L : List SessionRow → ℕ = λ rows. length rows in ap L (sym sessions_live) ∙ ap L is.live ∙ is.most

  pub browser_live : (browser : Word) → list_any (λ (turn : TurnRow). bytes_eq turn.browser browser) (live_rows turn_life turn_begun at t.turns) ≡ has_turn_browser (past_of p) at browser
  browser_live browser =
      let A : List TurnRow → Bool = λ rows. list_any (λ (turn : TurnRow). bytes_eq turn.browser browser) rows in
      ap A turns_live
