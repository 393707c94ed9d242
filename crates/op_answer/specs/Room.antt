-- Room: a step that would add a row to a full table, or a second row of one word, changes nothing.
use Rattle.std.specs.Prelude.{ℕ, Bool, false, ◌||◌, List, Option, Some, None, if◌then◌else◌}
use Rattle.std.specs.Str.{bytes_eq}
use Rattle.sso_base.specs.Words.{Word}
use Rattle.sso_base.specs.declared.history.Entry.{Entry}
use Rattle.sso_base.specs.Rows.{without}
use Rattle.code_grant.specs.declared.rows.SessionRow.{SessionRow}
use Rattle.code_grant.specs.Rows.{turn_name, session_name, code_name, access_name}
use Rattle.held_rows.specs.Held.{most_rows, is_full}
use Rattle.op_exchange.specs.declared.ask.OpAsk.{OpAsk}
use Rattle.op_exchange.specs.declared.ask.OpAsk.TheVariants as ask
use Rattle.op_exchange.specs.declared.reply.OpReply.{OpReply}
use Rattle.op_exchange.specs.declared.reply.OpReply.TheVariants.{LoginPage, ConsentPage, Full}
use Rattle.op_exchange.specs.Replied.{session_given, code_in, access_in}
use Rattle.op_answer.specs.Past.{OpPast}
use Rattle.op_answer.specs.Turns.{live_turns}
use Rattle.op_answer.specs.Sessions.{live_sessions}
use Rattle.op_answer.specs.Codes.{held_codes}
use Rattle.op_answer.specs.AccessTokens.{live_accesses}
use Rattle.op_answer.specs.Replies.{session_renewed}

abbrev pub lacks_turn : OpPast → ℕ → OpAsk → OpReply → Bool
lacks_turn past at (ask.Authorize verdict b session) (LoginPage w browser again) = is_full most_rows turn_name w (live_turns past at)
lacks_turn past at (ask.Authorize verdict b session) (ConsentPage w browser given client scopes) = is_full most_rows turn_name w (live_turns past at)
lacks_turn past at other reply = false

-- the sessions that are left where the presented one ends in favour of another word
abbrev pub sessions_beside : Option Word → Word → List SessionRow → List SessionRow
sessions_beside None w rows = rows
sessions_beside (Some presented) w rows = if bytes_eq presented w then rows else without session_name presented rows

abbrev pub lacks_new_session : OpPast → ℕ → Option SessionRow → Option Word → Option Word → Bool
lacks_new_session past at renewed presented None = false
lacks_new_session past at None presented (Some w) = is_full most_rows session_name w (sessions_beside presented w (live_sessions past at))
lacks_new_session past at (Some session) presented (Some w) = false

abbrev pub lacks_session : OpPast → ℕ → OpAsk → OpReply → Bool
lacks_session past at (ask.Login turn (Some user) b presented) reply =
    lacks_new_session past at (session_renewed past at user presented) presented (session_given reply)
lacks_session past at other reply = false

abbrev pub lacks_code : OpPast → ℕ → Option Word → Bool
lacks_code past at None = false
lacks_code past at (Some w) = is_full most_rows code_name w (held_codes past at)

abbrev pub lacks_access : OpPast → ℕ → Option Word → Bool
lacks_access past at None = false
lacks_access past at (Some w) = is_full most_rows access_name w (live_accesses past at)

abbrev pub lacks_room : OpPast → Entry OpAsk → OpReply → Bool
lacks_room past e reply =
    lacks_turn past e.at e.ask reply || lacks_session past e.at e.ask reply || lacks_code past e.at (code_in reply) || lacks_access past e.at (access_in reply)

abbrev pub unless_full : OpPast → Entry OpAsk → OpReply → OpReply
unless_full past e reply = if lacks_room past e reply then Full else reply
