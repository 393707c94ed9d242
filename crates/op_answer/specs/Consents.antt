-- The scope values that users have granted to clients (OpenID Connect Core 1.0, 3.1.2.4).
use Rattle.std.specs.Prelude.{ℕ, ◌==◌, Bool, true, false, ◌&&◌, [], ◌∷◌, Option, Some, None, if◌then◌else◌}
use Rattle.oidc_words.specs.declared.scopes.Scopes.{Scopes}
use Rattle.oidc_words.specs.Scopes.{no_scopes, joined}
use Rattle.user_interaction.specs.Need.{needed_scopes}
use Rattle.code_grant.specs.declared.rows.TurnRow.{TurnRow}
use Rattle.code_grant.specs.declared.rows.SessionRow.{SessionRow}
use Rattle.op_exchange.specs.declared.ask.OpAsk.{OpAsk}
use Rattle.op_exchange.specs.declared.ask.OpAsk.TheVariants.{Consent}
use Rattle.op_exchange.specs.declared.reply.OpReply.{OpReply}
use Rattle.op_exchange.specs.Replied.{ends_turn}
use Rattle.op_answer.specs.Past.{OpPast}
use Rattle.op_answer.specs.Turns.{turn_of}
use Rattle.op_answer.specs.Sessions.{session_of}

-- the turn that a consent ended
abbrev pub turn_agreed : OpPast → OpAsk → OpReply → Option TurnRow
turn_agreed past (Consent turn true b session) reply = if ends_turn reply then turn_of past turn else None
turn_agreed past ask reply = None

abbrev pub is_grant_of : ℕ → ℕ → TurnRow → Option SessionRow → Bool
is_grant_of user client turn None = false
is_grant_of user client turn (Some session) = session.user == user && turn.wish.client == client

abbrev pub granted_by : OpPast → ℕ → ℕ → Option TurnRow → Scopes
granted_by past user client None = no_scopes
granted_by past user client (Some turn) =
    if is_grant_of user client turn (session_of past turn.session) then needed_scopes turn.wish else no_scopes

-- the union of the scope values of the user's consents
abbrev pub grant_of : OpPast → ℕ → ℕ → Scopes
grant_of [] user client = no_scopes
grant_of (p ∷ past) user client = joined (grant_of past user client) (granted_by past user client (turn_agreed past p.entry.ask p.reply))
