-- The cause of the refusal `Full`: the reply without the test for room makes a row that has no place in its table, next to the
-- rows that live at the moment and that the step does not end. A reply makes at most one row in these tables, so at most one of
-- them lacks a place. The `sid` of a logout token is in no list here: if the token has room, its `sid` has room.
use Rattle.std.specs.Prelude.{◌≡◌, ℕ, true, Ok, ◌⊎◌}
use Rattle.sso_base.specs.Words.{Word, Text, fresh_word}
use Rattle.sso_base.specs.declared.history.Entry.{Entry}
use Rattle.sso_base.specs.declared.message.Message.{Message}
use Rattle.logout_token.specs.declared.claims.LogoutClaims.{LogoutClaims}
use Rattle.held_rows.specs.Held.{NoPlace}
use Rattle.oidc_words.specs.declared.response_types.Types.{Types}
use Rattle.rp_login.specs.declared.table.RpTable.{RpTable}
use Rattle.rp_login.specs.declared.table.RpTable.TheVariants as table
use Rattle.rp_login.specs.Rows.{login_name, pending_name, visit_name, seen_name}
use Rattle.rp_exchange.specs.declared.ask.RpAsk.{RpAsk}
use Rattle.rp_exchange.specs.declared.ask.RpAsk.TheVariants.{Logout}
use Rattle.rp_exchange.specs.declared.reply.RpReply.{RpReply}
use Rattle.rp_exchange.specs.declared.reply.RpReply.TheVariants.{Ask, Exchange, Fetch, Entered, Ended}
use Rattle.rp_exchange.specs.Asks.{is_prepared}
use Rattle.rp_answer.specs.Past.{RpPast}
use Rattle.rp_answer.specs.Setup.{PartySetup, party_of}
use Rattle.rp_answer.specs.Logins.{live_logins}
use Rattle.rp_answer.specs.Pendings.{live_pendings}
use Rattle.rp_answer.specs.Visits.{live_visits}
use Rattle.rp_answer.specs.Seens.{live_seens}
use Rattle.rp_answer.specs.Room.{beside_answered}
use Rattle.rp_answer.specs.Answering.{rp_told}

-- a login begins, under the state that was drawn
pub record NoLoginPlace (past : RpPast) (e : Entry RpAsk) (told : RpReply) : Type 0 where
  pub to : Text
  pub browser : Word
  pub begins : told ≡ Ask to browser
  pub full : NoPlace login_name (fresh_word e.fresh 1) (live_logins past e.at)

-- a code is exchanged, or UserInfo is asked for, under this word; the exchange that the ask answers ends
pub record NoPendingPlace (types : Types) (past : RpPast) (e : Entry RpAsk) (told : RpReply) : Type 0 where
  pub word : Word
  pub message : Message
  pub sent : (told ≡ Exchange word message) ⊎ (told ≡ Fetch word message)
  pub full : NoPlace pending_name word (beside_answered e.ask (live_pendings types past e.at))

-- a subject enters, under the word that was drawn
pub record NoSessionPlace (types : Types) (past : RpPast) (e : Entry RpAsk) (told : RpReply) : Type 0 where
  pub sub : Text
  pub enters : told ≡ Entered (fresh_word e.fresh 1) sub
  pub full : NoPlace visit_name (fresh_word e.fresh 1) (live_visits types past e.at)

-- a logout token is accepted, and remembered by its `jti`
pub record NoSeenPlace (past : RpPast) (e : Entry RpAsk) (told : RpReply) : Type 0 where
  pub claims : LogoutClaims
  pub asked : e.ask ≡ Logout (Ok claims)
  pub count : ℕ
  pub accepted : told ≡ Ended count
  pub full : NoPlace seen_name claims.jti (live_seens past e.at)

abbrev pub LacksPlace : Types → RpPast → Entry RpAsk → RpReply → RpTable → Type 0
LacksPlace types past e told table.Logins = NoLoginPlace past e told
LacksPlace types past e told table.Pendings = NoPendingPlace types past e told
LacksPlace types past e told table.Sessions = NoSessionPlace types past e told
LacksPlace types past e told table.Seen = NoSeenPlace past e told

pub record FullCause (s : PartySetup) (past : RpPast) (e : Entry RpAsk) (table : RpTable) : Type 0 where
  pub prepared : is_prepared e.ask ≡ true
  pub no_place : LacksPlace (party_of s).types past e (rp_told s past e e.ask) table
