-- The provider's tables and the lookups in its past: the rows that live at a moment are the same in both.
use Rattle.std.specs.Prelude.{◌≡◌, ◌<◌, ℕ, Bool, true, ◌&&◌}
use Rattle.std.specs.List.{list_all}
use Rattle.sso_base.specs.Rows.{live_rows}
use Rattle.client_registry.specs.Configuration.{Configuration}
use Rattle.client_registry.specs.Numbers.{is_client, is_user}
use Rattle.code_grant.specs.declared.rows.TurnRow.{TurnRow}
use Rattle.code_grant.specs.declared.rows.SessionRow.{SessionRow}
use Rattle.code_grant.specs.declared.rows.CodeRow.{CodeRow}
use Rattle.code_grant.specs.declared.rows.TokenRow.{TokenRow}
use Rattle.oidc_words.specs.Lives.{turn_life, session_life, code_life, access_life}
use Rattle.code_grant.specs.Rows.{turn_begun, session_begun, code_begun, access_begun}
use Rattle.held_rows.specs.Held.{none_after}
use Rattle.code_grant.specs.Consents.{granted_to}
use Rattle.code_grant.specs.Tables.{Tables}
use Rattle.op_exchange.specs.Asks.{is_prepared_wish}
use Rattle.op_answer.specs.Past.{OpPast}
use Rattle.op_answer.specs.Turns.{live_turns}
use Rattle.op_answer.specs.Sessions.{live_sessions}
use Rattle.op_answer.specs.Codes.{held_codes}
use Rattle.op_answer.specs.AccessTokens.{live_accesses}
use Rattle.op_answer.specs.Consents.{grant_of}

pub record Agrees (t : Tables) (past : OpPast) (at : ℕ) : Type 0 where
  pub turns : live_rows turn_life turn_begun at t.turns ≡ live_turns past at
  pub sessions : live_rows session_life session_begun at t.sessions ≡ live_sessions past at
  pub codes : live_rows code_life code_begun at t.codes ≡ held_codes past at
  pub tokens : live_rows access_life access_begun at t.tokens ≡ live_accesses past at
  pub granted : (user client : ℕ) → user < 512 → client < 128 → granted_to user client t.consents ≡ grant_of past user client

-- no row in the tables begins after the moment
pub record IsBegun (t : Tables) (at : ℕ) : Type 0 where
  pub turns : none_after turn_begun at t.turns ≡ true
  pub sessions : none_after session_begun at t.sessions ≡ true
  pub codes : none_after code_begun at t.codes ≡ true
  pub tokens : none_after access_begun at t.tokens ≡ true

-- the rows are about users, clients and wishes that requests to this provider can have
abbrev pub is_own_turn : Configuration → TurnRow → Bool
is_own_turn c row = is_prepared_wish c row.wish

abbrev pub is_own_session : Configuration → SessionRow → Bool
is_own_session c row = is_user c row.user

abbrev pub is_own_code : Configuration → CodeRow → Bool
is_own_code c row = is_user c row.user && is_prepared_wish c row.wish

abbrev pub is_own_token : Configuration → TokenRow → Bool
is_own_token c row = is_user c row.user && is_client c row.client

pub record AreOwn (c : Configuration) (t : Tables) : Type 0 where
  pub turns : list_all (is_own_turn c) t.turns ≡ true
  pub sessions : list_all (is_own_session c) t.sessions ≡ true
  pub codes : list_all (is_own_code c) t.codes ≡ true
  pub tokens : list_all (is_own_token c) t.tokens ≡ true
