-- Sequences of calls that change the tables; codes that are spent, and the access tokens of a code.
use Rattle.std.specs.Prelude.{◌≡◌, ℕ, Bool, true, false, List, [], ◌∷◌}
use Rattle.std.specs.Str.{bytes_eq}
use Rattle.std.specs.List.{AllByRecursion}
use Rattle.sso_base.specs.Words.{Word, is_word}
use Rattle.oidc_words.specs.declared.scopes.Scopes.{Scopes}
use Rattle.code_grant.specs.declared.rows.TurnRow.{TurnRow}
use Rattle.code_grant.specs.declared.rows.SessionRow.{SessionRow}
use Rattle.code_grant.specs.declared.rows.CodeRow.{CodeRow}
use Rattle.code_grant.specs.declared.rows.TokenRow.{TokenRow}
use Rattle.code_grant.specs.Tables.{Tables, with_room, purged, with_turn, with_session, with_code, with_token, turn_set, turn_ended, session_ended}
use Rattle.code_grant.specs.Tables.{session_renewed, session_visited, redemption, after_answer, with_consent}

pub data Call : Type 0 where
  reserve : Call
  purge : (at : ℕ) → Call
  start_turn : (row : TurnRow) → Call
  start_session : (row : SessionRow) → Call
  issue_code : (row : CodeRow) → Call
  issue_token : (row : TokenRow) → Call
  set_turn : (word : Word) (session : Word) (in_turn : Bool) → Call
  end_turn : (word : Word) → Call
  end_session : (word : Word) → Call
  renew : (word : Word) (at : ℕ) → Call
  visit : (word : Word) (client : ℕ) → Call
  redeem : (code : Word) (client : ℕ) (redirect : List ℕ) (at : ℕ) → Call
  grant : (user : ℕ) (client : ℕ) (scopes : Scopes) → Call

-- the tables after a call
abbrev pub after : Call → Tables → Tables
after reserve t = with_room t
after (purge at) t = purged at t
after (start_turn row) t = with_turn row t
after (start_session row) t = with_session row t
after (issue_code row) t = with_code row t
after (issue_token row) t = with_token row t
after (set_turn w session in_turn) t = turn_set w session in_turn t
after (end_turn w) t = turn_ended w t
after (end_session w) t = session_ended w t
after (renew w at) t = session_renewed w at t
after (visit w client) t = session_visited w client t
after (redeem w client redirect at) t = after_answer (redemption w client redirect at t) w t
after (grant user client scopes) t = with_consent user client scopes t

-- the tables after a sequence of calls
abbrev pub after_all : List Call → Tables → Tables
after_all [] t = t
after_all (call ∷ calls) t = after_all calls (after call t)

-- the call issues a code of this word
abbrev pub issues : Word → Call → Bool
issues w (issue_code row) = bytes_eq row.word w
issues w call = false

-- none of the calls issues a code of this word
abbrev pub NoneIssues : Word → List Call → Type 0
NoneIssues w calls = AllByRecursion (λ call. issues w call ≡ false) calls

-- every code of this word in the table is spent
abbrev pub IsSpent : Word → Tables → Type 0
IsSpent w t = AllByRecursion (λ (row : CodeRow). bytes_eq row.word w ≡ true → row.spent ≡ true) t.codes

-- none of the access tokens was issued for this code
abbrev pub NoneIsOf : Word → List TokenRow → Type 0
NoneIsOf w tokens = AllByRecursion (λ (token : TokenRow). is_word token.code w ≡ false) tokens
