-- How the tables are kept in agreement with the past: the changes of a request and its reply to existing rows, and the tables
-- after one more pair.
use Rattle.std.specs.Prelude.{◌≡◌, ◌≢◌, ◌<◌, ℕ, Bool, true, false, List, length, filter_map, Option, Some, None, option_map, option_and_then, Ok, if◌then◌else◌}
use Rattle.std.specs.Str.{bytes_eq}
use Rattle.sso_base.specs.Words.{Word}
use Rattle.sso_base.specs.Rows.{without, put, row_of, live_rows}
use Rattle.oidc_words.specs.Scopes.{joined}
use Rattle.user_interaction.specs.Need.{needed_scopes}
use Rattle.token_endpoint.specs.declared.granting.Grant.{Grant}
use Rattle.code_grant.specs.declared.rows.TurnRow.{TurnRow}
use Rattle.code_grant.specs.declared.rows.SessionRow.{SessionRow}
use Rattle.code_grant.specs.declared.rows.CodeRow.{CodeRow}
use Rattle.code_grant.specs.declared.rows.TokenRow.{TokenRow}
use Rattle.code_grant.specs.declared.redeem.Redeem.{Redeem}
use Rattle.code_grant.specs.declared.redeem.Redeem.TheVariants.{Redeemed}
use Rattle.code_grant.specs.Rows.{turn_name, turn_begun, session_name, session_begun, code_name, code_begun, access_name, access_begun}
use Rattle.oidc_words.specs.Lives.{turn_life, session_life, code_life, access_life}
use Rattle.held_rows.specs.Held.{none_after, most_rows}
use Rattle.code_grant.specs.Consents.{granted_to}
use Rattle.code_grant.specs.Tables.{Tables, turn_set, turn_ended, session_visited, redemption, after_answer}
use Rattle.code_grant.specs.Tables as tables
use Rattle.op_exchange.specs.declared.ask.OpAsk.{OpAsk}
use Rattle.op_exchange.specs.declared.ask.OpAsk.TheVariants.{Login, Consent, Token, SignOut}
use Rattle.op_exchange.specs.declared.reply.OpReply.{OpReply}
use Rattle.op_exchange.specs.declared.reply.OpReply.TheVariants.{ConsentPage, Tokens, TokenRefused, SignedOut}
use Rattle.op_exchange.specs.Replied.{ends_turn}
use Rattle.op_tables.specs.declared.keeping.Agreement.{Agreement}
use Rattle.op_answer.specs.Past.{OpPair, OpPast}
use Rattle.op_answer.specs.Turns.{turns, turn_made, turn_kept}
use Rattle.op_answer.specs.Sessions.{sessions, session_made, session_kept, session_set, session_of, client_answered, session_used}
use Rattle.op_answer.specs.Codes.{codes_issued, code_made, code_kept, code_named, held_code, redeem, is_spent}
use Rattle.op_answer.specs.AccessTokens.{accesses, access_made, access_kept}
use Rattle.op_answer.specs.Consents.{turn_agreed, granted_by}

-- ---- turns

-- the session that a consent page after a login gives to its turn
abbrev pub session_taken : OpAsk → OpReply → Option Word
session_taken (Login turn signed b presented) (ConsentPage w browser session client scopes) = session
session_taken ask reply = None

-- the turn with the word ends, or gets the session
abbrev pub turn_moved : Option Word → Bool → Option Word → Tables → Tables
turn_moved None ends taken t = t
turn_moved (Some w) true taken t = turn_ended w t
turn_moved (Some w) false (Some session) t = turn_set w session true t
turn_moved (Some w) false None t = t

-- ---- sessions

-- the presented session, if the login gives another
abbrev pub session_replaced : Option Word → Option Word → Option Word
session_replaced None left = None
session_replaced (Some presented) None = None
session_replaced (Some presented) (Some left) = if bytes_eq presented left then None else Some presented

-- the session that a sign-out or a login ends
abbrev pub session_ended : OpAsk → OpReply → Option Word
session_ended (SignOut session) (SignedOut messages) = session
session_ended (Login turn signed b presented) reply = session_replaced presented (session_set (Login turn signed b presented) reply)
session_ended ask reply = None

abbrev pub ended_if : Option Word → Tables → Tables
ended_if None t = t
ended_if (Some w) t = tables.session_ended w t

abbrev pub visited_if : Option Word → Option ℕ → Tables → Tables
visited_if (Some w) (Some client) t = session_visited w client t
visited_if used client t = t

-- ---- codes

-- the token request that got tokens or an error response
abbrev pub grant_answered : OpAsk → OpReply → Option Grant
grant_answered (Token (Ok grant)) (Tokens access id) = Some grant
grant_answered (Token (Ok grant)) (TokenRefused code) = Some grant
grant_answered ask reply = None

-- the tables after a request for tokens for a code
abbrev pub code_asked : Option Word → Grant → ℕ → Tables → Tables
code_asked None grant at t = t
code_asked (Some w) grant at t = after_answer (redemption w grant.client grant.redirect at t) w t

-- Tokens imply that the code was valid, and an error response that it was not. With any other reply, no spent code was found.
abbrev pub TellsRedeem : OpReply → Redeem → Type 0
TellsRedeem (Tokens access id) answer = answer ≡ Redeemed
TellsRedeem (TokenRefused code) answer = answer ≢ Redeemed
TellsRedeem reply answer = is_spent answer ≡ false

abbrev pub TellsRedemption : OpPast → ℕ → OpAsk → OpReply → Type 0
TellsRedemption past at (Token (Ok grant)) reply = TellsRedeem reply (redeem past at grant)
TellsRedemption past at ask reply = Unit {0}

-- the code that a token request names is found among these codes
abbrev pub FindsCode : List CodeRow → OpPast → ℕ → OpAsk → Type 0
FindsCode codes past at ask = option_and_then (λ w. row_of code_name w codes) (code_named ask) ≡ held_code past at (code_named ask)

-- ---- what users have granted

-- the turn of a consent form in which the user consented, if it got an authorization response
abbrev pub agreed_turn : OpAsk → OpReply → Option Word
agreed_turn (Consent turn true b session) reply = if ends_turn reply then turn else None
agreed_turn ask reply = None

abbrev pub session_in : Tables → Option Word → Option SessionRow
session_in t w = option_and_then (λ v. row_of session_name v t.sessions) w

-- the grant by the user of the turn's session of the scopes of the turn's consent page
abbrev pub agreement_by : TurnRow → SessionRow → Agreement
agreement_by turn session = record { user = session.user; client = turn.wish.client; scopes = needed_scopes turn.wish }

abbrev pub agreement_of : Tables → Option TurnRow → Option Agreement
agreement_of t None = None
agreement_of t (Some turn) = option_map (agreement_by turn) (session_in t turn.session)

abbrev pub turn_in : Tables → Option Word → Option TurnRow
turn_in t w = option_and_then (λ v. row_of turn_name v t.turns) w

-- the turn of the consent is found in the tables, and so is its session
pub record FindsAgreement (t : Tables) (past : OpPast) (asked : OpAsk) (reply : OpReply) : Type 0 where
  pub turn : turn_in t (agreed_turn asked reply) ≡ turn_agreed past asked reply
  pub session : (row : TurnRow) → turn_agreed past asked reply ≡ Some row → session_in t row.session ≡ session_of past row.session

-- ---- new rows

-- the row may be added to a table, and replaces one with its name
pub record MayPut {R : Type 0} (name : R → Word) (begun : R → ℕ) (reserved : Bool) (rows : List R) (row : R) : Type 0 where
  pub room : reserved ≡ true
  pub few : length (without name (name row) rows) < most_rows
  pub latest : none_after begun (begun row) rows ≡ true

abbrev pub turn_put : Option TurnRow → Tables → Tables
turn_put None t = t
turn_put (Some row) t = record t { turns = put turn_name (Some row) t.turns; reserved = record t.reserved { turns = false } }

abbrev pub session_put : Option SessionRow → Tables → Tables
session_put None t = t
session_put (Some row) t = record t { sessions = put session_name (Some row) t.sessions; reserved = record t.reserved { sessions = false } }

abbrev pub code_put : Option CodeRow → Tables → Tables
code_put None t = t
code_put (Some row) t = record t { codes = put code_name (Some row) t.codes; reserved = record t.reserved { codes = false } }

abbrev pub token_put : Option TokenRow → Tables → Tables
token_put None t = t
token_put (Some row) t = record t { tokens = put access_name (Some row) t.tokens; reserved = record t.reserved { tokens = false } }

-- ---- one more pair

-- the tables after a pair: the rows that lived at its moment, as the pair leaves them, the rows that it makes, and its grants
pub record IsUpdate (before after : Tables) (past : OpPast) (p : OpPair) : Type 0 where
  pub turns_are : after.turns
      ≡ put turn_name (turn_made (turns past) past p)
      (filter_map (turn_kept past p) (live_rows turn_life turn_begun p.entry.at before.turns))
  pub sessions_are : after.sessions
      ≡ put session_name (session_made (sessions past) past p)
      (filter_map (session_kept past p) (live_rows session_life session_begun p.entry.at before.sessions))
  pub codes_are : after.codes
      ≡ put code_name (code_made (codes_issued past) past p)
      (filter_map (code_kept past p) (live_rows code_life code_begun p.entry.at before.codes))
  pub tokens_are : after.tokens
      ≡ put access_name (access_made (accesses past) past p)
      (filter_map (access_kept past p) (live_rows access_life access_begun p.entry.at before.tokens))
  pub grants_are : (user client : ℕ) → user < 512 → client < 128
      → granted_to user client after.consents
      ≡ joined (granted_to user client before.consents) (granted_by past user client (turn_agreed past p.entry.ask p.reply))

-- the sessions are as the pair leaves them after its past, if it used this session and answered this client
abbrev pub KeepsSessions : Tables → Tables → OpPair → Option Word → Option ℕ → Type 0
KeepsSessions before after p used client =
    (past : OpPast) → ((n : ℕ) → client ≡ Some n → session_used past p.entry.ask p.reply ≡ used)
    → client_answered past p ≡ client → after ≡ record before { sessions = filter_map (session_kept past p) before.sessions }

-- the codes and the access tokens are as the pair leaves them after its past
abbrev pub KeepsCodes : Tables → Tables → OpPair → Type 0
KeepsCodes before after p =
    (past : OpPast) → FindsCode before.codes past p.entry.at p.entry.ask → TellsRedemption past p.entry.at p.entry.ask p.reply
    → after ≡ record before { codes = filter_map (code_kept past p) before.codes; tokens = filter_map (access_kept past p) before.tokens }

-- the grants are those before, and those of the consent form that the pair answered after its past
abbrev pub GrantsAgreement : Tables → Tables → OpPair → Type 0
GrantsAgreement before after p =
    (past : OpPast) → FindsAgreement before past p.entry.ask p.reply → (user client : ℕ) → user < 512 → client < 128
    → granted_to user client after.consents
    ≡ joined (granted_to user client before.consents) (granted_by past user client (turn_agreed past p.entry.ask p.reply))
