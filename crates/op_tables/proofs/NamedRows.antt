-- The row of a word lives if and only if it is found among the live rows; and these are distinct.
use Rattle.std.proofs.Common.{◌≡◌, ℕ, Some}
use Rattle.sso_base.specs.Words.{Word}
use Rattle.sso_base.specs.Rows.{row_of, lives}
use Rattle.sso_base.specs.Stands.{IsDistinct}
use Rattle.sso_base.proofs.RowLaws.{rows_distinct}
use Rattle.held_rows.proofs.HeldLaws.{distinct_filter}
use Rattle.code_grant.specs.declared.rows.SessionRow.{SessionRow}
use Rattle.code_grant.specs.Rows.{turn_name, turn_begun, session_name, session_begun, code_name, code_begun, access_name, access_begun}
use Rattle.oidc_words.specs.Lives.{turn_life, session_life, code_life, access_life}
use Rattle.op_answer.specs.Past.{OpPast}
use Rattle.op_answer.specs.Turns.{turns, turn_made, turn_kept, live_turns, live_turn}
use Rattle.op_answer.specs.Sessions.{sessions, session_made, session_kept, live_sessions, live_session}
use Rattle.op_answer.specs.Codes.{codes_issued, code_made, code_kept, held_codes, held_code}
use Rattle.op_answer.specs.AccessTokens.{accesses, access_made, access_kept, live_accesses, live_access_token}
use Rattle.op_answer.proofs.KeptNames.{turn_names, session_names, code_names, access_names}
use Rattle.held_rows.proofs.Found.{found_live}

module _ (past : OpPast) (at : ℕ) (w : Word) where
  pub turn_named : live_turn past at (Some w) ≡ row_of turn_name w (live_turns past at)
  turn_named = found_live turn_name turn_life turn_begun at w (turns past) (rows_distinct turn_name turn_made turn_kept turn_names past)

  pub session_named : live_session past at (Some w) ≡ row_of session_name w (live_sessions past at)
  session_named = found_live session_name session_life session_begun at w (sessions past) (rows_distinct session_name session_made session_kept session_names past)

  pub code_named : held_code past at (Some w) ≡ row_of code_name w (held_codes past at)
  code_named = found_live code_name code_life code_begun at w (codes_issued past) (rows_distinct code_name code_made code_kept code_names past)

  pub token_named : live_access_token past at w ≡ row_of access_name w (live_accesses past at)
  token_named = found_live access_name access_life access_begun at w (accesses past) (rows_distinct access_name access_made access_kept access_names past)

pub sessions_distinct : (past : OpPast) (at : ℕ) → IsDistinct session_name (live_sessions past at)
sessions_distinct past at = distinct_filter session_name (λ (row : SessionRow). lives session_life row.auth_time at) (sessions past) (rows_distinct session_name session_made session_kept session_names past)
