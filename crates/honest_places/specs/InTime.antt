-- In time: what a login's request names is within its lifetime, if it exists.
use Rattle.std.specs.Prelude.{◌≡◌, ◌+◌, ℕ, true, false, Option, Some, Ok}
use Rattle.sso_base.specs.Words.{word_of_text}
use Rattle.sso_base.specs.Rows.{lives}
use Rattle.oidc_words.specs.Lives.{turn_life, session_life, code_usable, access_life, login_life, pending_life, id_token_life, leeway}
use Rattle.oidc_words.specs.declared.response_types.Types.{Types}
use Rattle.client_registry.specs.Configuration.{Configuration}
use Rattle.client_registry.specs.Numbers.{party_row}
use Rattle.user_interaction.specs.Need.{is_late}
use Rattle.id_token.specs.declared.claims.IdClaims.{IdClaims}
use Rattle.userinfo.specs.declared.header.Bearer.TheVariants.{Given}
use Rattle.code_grant.specs.declared.rows.TurnRow.{TurnRow}
use Rattle.code_grant.specs.declared.rows.SessionRow.{SessionRow}
use Rattle.code_grant.specs.declared.rows.CodeRow.{CodeRow}
use Rattle.code_grant.specs.declared.rows.TokenRow.{TokenRow}
use Rattle.op_exchange.specs.declared.ask.OpAsk.{OpAsk}
use Rattle.op_exchange.specs.declared.ask.OpAsk.TheVariants as op_ask
use Rattle.op_answer.specs.Past.{OpPast}
use Rattle.op_answer.specs.Turns.{turn_of}
use Rattle.op_answer.specs.Sessions.{session_of}
use Rattle.op_answer.specs.Codes.{code_of}
use Rattle.op_answer.specs.AccessTokens.{access_token_of}
use Rattle.op_answer.specs.Replies.{standing_agreed}
use Rattle.rp_login.specs.declared.rows.LoginRow.{LoginRow}
use Rattle.rp_login.specs.declared.rows.PendingRow.{PendingRow}
use Rattle.rp_exchange.specs.declared.ask.RpAsk.{RpAsk}
use Rattle.rp_exchange.specs.declared.ask.RpAsk.TheVariants as rp_ask
use Rattle.rp_answer.specs.Past.{RpPast}
use Rattle.rp_answer.specs.Asked.{state_named, claims_judged}
use Rattle.rp_answer.specs.Logins.{login_of}
use Rattle.rp_answer.specs.Pendings.{pending_of}
use Rattle.sso_places.specs.World.{Place, Provider, Party, Nothing, World, op_past, rp_past}
use Rattle.honest_places.specs.Conditions.{Condition, within_lives, code_in_time, token_in_time, recent_sign_in, Unless}

module _ (left_out : Option Condition) where
  -- a consent form: its turn, and the session for which the turn is to be answered
  pub record IsConsentInTime (past : OpPast) (at : ℕ) (row : TurnRow) : Type 0 where
    pub turn : Unless left_out within_lives (lives turn_life row.begun at ≡ true)
    pub session : (session : SessionRow) → session_of past row.session ≡ Some session
        → Unless left_out within_lives (lives session_life session.auth_time at ≡ true)
    pub recent : (session : SessionRow) → session_of past row.session ≡ Some session
        → Unless left_out recent_sign_in (is_late row.wish (Some (standing_agreed past row session)) at ≡ false)

  abbrev pub IsOpInTime : OpPast → ℕ → OpAsk → Type 0
  IsOpInTime past at (op_ask.Login turn signed b session) =
      (row : TurnRow) → turn_of past turn ≡ Some row → Unless left_out within_lives (lives turn_life row.begun at ≡ true)
  IsOpInTime past at (op_ask.Consent turn agree b session) = (row : TurnRow) → turn_of past turn ≡ Some row → IsConsentInTime past at row
  IsOpInTime past at (op_ask.Token (Ok grant)) =
      (row : CodeRow) → code_of past (word_of_text grant.code) ≡ Some row
      → Unless left_out code_in_time (lives code_usable row.issued at ≡ true)
  IsOpInTime past at (op_ask.Info (Given w)) =
      (row : TokenRow) → access_token_of past w ≡ Some row
      → Unless left_out within_lives (lives access_life row.issued at ≡ true)
  IsOpInTime past at asked = Unit {0}

  -- an authorization response: the login, and the ID Token in it, if the response type has one
  pub record IsResponseInTime (types : Types) (past : RpPast) (at : ℕ) (asked : RpAsk) : Type 0 where
    pub login : (row : LoginRow) → login_of past (state_named asked) ≡ Some row → Unless left_out within_lives (lives login_life row.begun at ≡ true)
    pub token : (claims : IdClaims) → claims_judged types asked ≡ Some claims
        → Unless left_out token_in_time (lives (id_token_life + leeway) claims.iat at ≡ true)

  abbrev pub IsRpInTime : Types → RpPast → ℕ → RpAsk → Type 0
  IsRpInTime types past at (rp_ask.Callback heard id b) = IsResponseInTime types past at (rp_ask.Callback heard id b)
  IsRpInTime types past at (rp_ask.Tokens w came id) =
      (row : PendingRow) → pending_of types past w ≡ Some row
      → Unless left_out within_lives (lives pending_life row.since at ≡ true)
  IsRpInTime types past at (rp_ask.Info w came) =
      (row : PendingRow) → pending_of types past w ≡ Some row
      → Unless left_out within_lives (lives pending_life row.since at ≡ true)
  IsRpInTime types past at asked = Unit {0}

  -- a place, after this world
  abbrev pub IsInTime : Configuration → World → Place → Type 0
  IsInTime c world (Provider from request p) = IsOpInTime (op_past world) p.entry.at p.entry.ask
  IsInTime c world (Party n from request p) = IsRpInTime (party_row c n).types (rp_past n world) p.entry.at p.entry.ask
  IsInTime c world Nothing = Unit {0}
