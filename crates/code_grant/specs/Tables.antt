-- The provider's tables as their calls see them, and the effect of each call.
use Rattle.std.specs.Prelude.{ℕ, ◌<◌, Bool, true, false, not, List, [], ◌∷◌, ◌++◌, filter, Some}
use Rattle.sso_base.specs.Words.{Word, is_word}
use Rattle.sso_base.specs.Rows.{without, row_of, live_rows}
use Rattle.oidc_words.specs.declared.scopes.Scopes.{Scopes}
use Rattle.code_grant.specs.declared.rows.TurnRow.{TurnRow}
use Rattle.code_grant.specs.declared.rows.SessionRow.{SessionRow}
use Rattle.code_grant.specs.declared.rows.CodeRow.{CodeRow}
use Rattle.code_grant.specs.declared.rows.TokenRow.{TokenRow}
use Rattle.code_grant.specs.declared.redeem.Redeem.{Redeem}
use Rattle.code_grant.specs.declared.redeem.Redeem.TheVariants as redeem
use Rattle.code_grant.specs.declared.table.Table.{Table}
use Rattle.code_grant.specs.declared.table.Table.TheVariants.{Turns, Sessions, Codes, Tokens}
use Rattle.code_grant.specs.declared.table.Reserved.{Reserved}
use Rattle.code_grant.specs.Rows.{turn_name, turn_begun, session_name, session_begun, code_name, code_begun, access_name, access_begun}
use Rattle.oidc_words.specs.Lives.{turn_life, session_life, code_life, access_life}
use Rattle.held_rows.specs.Held.{IsHeld, changed, moved, has_room_for_one, IsFull}
use Rattle.client_registry.specs.ClientSets.{with_client}
use Rattle.code_grant.specs.Consents.{no_consents, with_grant}
use Rattle.code_grant.specs.Redeeming.{redeem_of}

-- the rows of each table in the order of issue, what users have granted to clients, and the tables in which room for one more
-- row is reserved
pub record Tables : Type 0 where
  pub turns : List TurnRow
  pub sessions : List SessionRow
  pub codes : List CodeRow
  pub tokens : List TokenRow
  pub consents : List Scopes
  pub reserved : Reserved

abbrev pub no_tables : Tables
no_tables = record {
  turns = [];
  sessions = [];
  codes = [];
  tokens = [];
  consents = no_consents;
  reserved = record { turns = false; sessions = false; codes = false; tokens = false };
}

-- ---- the invariant of each table: at most 65,536 rows, with distinct words, in the order of the moments from which they live,
-- of users below 512 and clients below 128

abbrev pub AreTurns : List TurnRow → Type 0
AreTurns rows = IsHeld turn_name turn_begun (λ row. row.wish.client < 128) rows

abbrev pub AreSessions : List SessionRow → Type 0
AreSessions rows = IsHeld session_name session_begun (λ row. row.user < 512) rows

abbrev pub AreCodes : List CodeRow → Type 0
AreCodes rows = IsHeld code_name code_begun (λ row. (row.user < 512) × (row.wish.client < 128)) rows

abbrev pub AreTokens : List TokenRow → Type 0
AreTokens rows = IsHeld access_name access_begun (λ row. (row.user < 512) × (row.client < 128)) rows

-- ---- room

abbrev pub with_room : Tables → Tables
with_room t = record t { reserved = record { turns = true; sessions = true; codes = true; tokens = true } }

-- the tables without the rows whose life has ended at the moment
abbrev pub purged : ℕ → Tables → Tables
purged at t = record t {
  turns = live_rows turn_life turn_begun at t.turns;
  sessions = live_rows session_life session_begun at t.sessions;
  codes = live_rows code_life code_begun at t.codes;
  tokens = live_rows access_life access_begun at t.tokens;
}

-- the number of rows of the table that live at the moment is below the limit
abbrev pub has_room : Table → ℕ → Tables → Bool
has_room Turns at t = has_room_for_one turn_life turn_begun at t.turns
has_room Sessions at t = has_room_for_one session_life session_begun at t.sessions
has_room Codes at t = has_room_for_one code_life code_begun at t.codes
has_room Tokens at t = has_room_for_one access_life access_begun at t.tokens

-- the table has 65,536 rows, and a purge at the moment would remove none of them
abbrev pub IsFullTable : Table → ℕ → Tables → Type 0
IsFullTable Turns at t = IsFull turn_life turn_begun at t.turns
IsFullTable Sessions at t = IsFull session_life session_begun at t.sessions
IsFullTable Codes at t = IsFull code_life code_begun at t.codes
IsFullTable Tokens at t = IsFull access_life access_begun at t.tokens

-- ---- one row more; it uses the reserved room

abbrev pub with_turn : TurnRow → Tables → Tables
with_turn row t = record t { turns = t.turns ++ row ∷ []; reserved = record t.reserved { turns = false } }

abbrev pub with_session : SessionRow → Tables → Tables
with_session row t = record t { sessions = t.sessions ++ row ∷ []; reserved = record t.reserved { sessions = false } }

abbrev pub with_code : CodeRow → Tables → Tables
with_code row t = record t { codes = t.codes ++ row ∷ []; reserved = record t.reserved { codes = false } }

abbrev pub with_token : TokenRow → Tables → Tables
with_token row t = record t { tokens = t.tokens ++ row ∷ []; reserved = record t.reserved { tokens = false } }

-- ---- turns

abbrev pub turn_with : Word → Bool → TurnRow → TurnRow
turn_with session in_turn row = record row { session = Some session; in_turn = in_turn }

abbrev pub turn_set : Word → Word → Bool → Tables → Tables
turn_set w session in_turn t = record t { turns = changed turn_name w (turn_with session in_turn) t.turns }

abbrev pub turn_ended : Word → Tables → Tables
turn_ended w t = record t { turns = without turn_name w t.turns }

-- ---- sessions

abbrev pub session_ended : Word → Tables → Tables
session_ended w t = record t { sessions = without session_name w t.sessions }

abbrev pub session_at : ℕ → SessionRow → SessionRow
session_at at row = record row { auth_time = at }

-- a renewed session moves to the end, as if issued again
abbrev pub session_renewed : Word → ℕ → Tables → Tables
session_renewed w at t = record t { sessions = moved session_name w (session_at at) t.sessions }

abbrev pub session_with : ℕ → SessionRow → SessionRow
session_with client row = record row { clients = with_client client row.clients }

abbrev pub session_visited : Word → ℕ → Tables → Tables
session_visited w client t = record t { sessions = changed session_name w (session_with client) t.sessions }

-- ---- codes

-- the result of a redemption; it depends only on the code's row
abbrev pub redemption : Word → ℕ → List ℕ → ℕ → Tables → Redeem
redemption w client redirect at t = redeem_of client redirect at (row_of code_name w t.codes)

abbrev pub code_spent : CodeRow → CodeRow
code_spent row = record row { spent = true }

-- the tables without the access tokens issued for the code
abbrev pub tokens_of_ended : Word → Tables → Tables
tokens_of_ended w t = record t { tokens = filter (λ token. not (is_word token.code w)) t.tokens }

-- a code that is redeemed is marked spent; if it was spent before, the access tokens issued for it are removed (RFC 6749,
-- 4.1.2)
abbrev pub after_answer : Redeem → Word → Tables → Tables
after_answer redeem.Redeemed w t = record t { codes = changed code_name w code_spent t.codes }
after_answer redeem.Spent w t = tokens_of_ended w t
after_answer redeem.Unknown w t = t
after_answer redeem.OtherClient w t = t
after_answer redeem.Expired w t = t
after_answer redeem.OtherUri w t = t

-- ---- grants

abbrev pub with_consent : ℕ → ℕ → Scopes → Tables → Tables
with_consent user client scopes t = record t { consents = with_grant user client scopes t.consents }
