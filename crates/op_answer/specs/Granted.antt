-- The literal meaning of "a user has granted a scope value to a client": some consent form with a yes got an authorization
-- response. It was for a turn of that client and a session of that user, and the consent covers the scope value.
use Rattle.std.specs.Prelude.{◌≡◌, ℕ, Bool, true, ◌∷◌, ◌++◌, Option, Some}
use Rattle.sso_base.specs.Words.{Word}
use Rattle.oidc_words.specs.declared.scopes.Scopes.{Scopes}
use Rattle.user_interaction.specs.Need.{needed_scopes}
use Rattle.code_grant.specs.declared.rows.TurnRow.{TurnRow}
use Rattle.code_grant.specs.declared.rows.SessionRow.{SessionRow}
use Rattle.op_exchange.specs.declared.ask.OpAsk.TheVariants.{Consent}
use Rattle.op_exchange.specs.Replied.{ends_turn}
use Rattle.op_answer.specs.Past.{OpPair, OpPast}
use Rattle.op_answer.specs.Turns.{turn_of}
use Rattle.op_answer.specs.Sessions.{session_of}

-- `has` selects one scope value
pub record SaysYes (earlier : OpPast) (p : OpPair) (user client : ℕ) (has : Scopes → Bool) : Type 0 where
  pub turn : Option Word
  pub browser : Option Word
  pub presented : Option Word
  pub asked : p.entry.ask ≡ Consent turn true browser presented
  pub ended : ends_turn p.reply ≡ true
  pub row : TurnRow
  pub row_is : turn_of earlier turn ≡ Some row
  pub session : SessionRow
  pub session_is : session_of earlier row.session ≡ Some session
  pub user_is : session.user ≡ user
  pub client_is : row.wish.client ≡ client
  pub about : has (needed_scopes row.wish) ≡ true

pub record Granted (past : OpPast) (user client : ℕ) (has : Scopes → Bool) : Type 0 where
  pub later : OpPast
  pub pair : OpPair
  pub earlier : OpPast
  pub parts : past ≡ later ++ pair ∷ earlier
  pub yes : SaysYes earlier pair user client has
