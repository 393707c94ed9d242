-- Sessions: a user who is logged in at the provider with one browser, and the clients that the session has logged in to.
use Rattle.std.specs.Prelude.{ℕ, Bool, true, false, not, ◌&&◌, List, Option, Some, None, option_map, option_and_then, if◌then◌else◌}
use Rattle.std.specs.Str.{bytes_eq}
use Rattle.sso_base.specs.Words.{Word, is_word, fresh_word}
use Rattle.sso_base.specs.Rows.{rows_by, row_of, live_rows, if_lives}
use Rattle.auth_request.specs.declared.wish.Wish.{Wish}
use Rattle.auth_request.specs.declared.wish.Verdict.TheVariants as verdict
use Rattle.code_grant.specs.declared.rows.TurnRow.{TurnRow}
use Rattle.code_grant.specs.declared.rows.SessionRow.{SessionRow}
use Rattle.code_grant.specs.Rows.{session_name, session_begun}
use Rattle.oidc_words.specs.Lives.{session_life}
use Rattle.client_registry.specs.ClientSets.{no_clients, with_client}
use Rattle.op_exchange.specs.declared.ask.OpAsk.{OpAsk}
use Rattle.op_exchange.specs.declared.ask.OpAsk.TheVariants.{Authorize, Login, Consent, SignOut}
use Rattle.op_exchange.specs.declared.reply.OpReply.{OpReply}
use Rattle.op_exchange.specs.declared.reply.OpReply.TheVariants.{Answered, SignedOut}
use Rattle.op_exchange.specs.Replied.{session_given}
use Rattle.op_answer.specs.Past.{OpPair, OpPast}
use Rattle.op_answer.specs.Turns.{turn_of}

-- ---- the session that a pair sets

-- the session after a login with a correct password
abbrev pub session_set : OpAsk → OpReply → Option Word
session_set (Login turn signed b presented) reply = session_given reply
session_set ask reply = None

abbrev pub is_answered : OpReply → Bool
is_answered (Answered answer session) = true
is_answered reply = false

abbrev pub signed_user : OpAsk → Option ℕ
signed_user (Login turn signed b session) = signed
signed_user ask = None

-- ---- the wish and the session of an answer

-- the wish of the request, or of the turn
abbrev pub wish_by : OpPast → OpAsk → Option Wish
wish_by past (Authorize (verdict.Grant wish) b session) = Some wish
wish_by past (Login turn signed b session) = option_map (λ (row : TurnRow). row.wish) (turn_of past turn)
wish_by past (Consent turn agree b session) = option_map (λ (row : TurnRow). row.wish) (turn_of past turn)
wish_by past ask = None

-- the presented session, the one after the login, or the turn's
abbrev pub session_used : OpPast → OpAsk → OpReply → Option Word
session_used past (Authorize verdict b session) reply = session
session_used past (Login turn signed b session) reply = session_set (Login turn signed b session) reply
session_used past (Consent turn agree b session) reply = option_and_then (λ (row : TurnRow). row.session) (turn_of past turn)
session_used past ask reply = None

-- the client that a pair answers
abbrev pub client_of_wish : Bool → Option Wish → Option ℕ
client_of_wish true (Some wish) = Some wish.client
client_of_wish answers wish = None

abbrev pub client_answered : OpPast → OpPair → Option ℕ
client_answered past p = client_of_wish (is_answered p.reply) (wish_by past p.entry.ask)

-- ---- the rows

abbrev pub and_client : Option ℕ → List Bool → List Bool
and_client None clients = clients
and_client (Some n) clients = with_client n clients

-- the live row of the word, or a new one
abbrev pub session_before : Word → Word → ℕ → ℕ → Option SessionRow → SessionRow
session_before w sid user at None = record { word = w; sid = sid; user = user; auth_time = at; clients = no_clients }
session_before w sid user at (Some row) = row

abbrev pub session_by : OpPast → OpPair → Option SessionRow → Word → ℕ → SessionRow
session_by past p row w user =
    let before = session_before w (fresh_word p.entry.fresh 1) user p.entry.at row in
    record before { auth_time = p.entry.at; clients = and_client (client_answered past p) before.clients }

-- the row of a word, if it lives
abbrev pub live_in : ℕ → Word → List SessionRow → Option SessionRow
live_in at w held = option_and_then (if_lives session_life session_begun at) (row_of session_name w held)

-- A session is made by a login whose reply sets a session word, and renewed by it if it was live.
abbrev pub session_made_by : List SessionRow → OpPast → OpPair → Option Word → Option ℕ → Option SessionRow
session_made_by held past p (Some w) (Some user) = Some (session_by past p (live_in p.entry.at w held) w user)
session_made_by held past p w user = None

abbrev pub session_made : List SessionRow → OpPast → OpPair → Option SessionRow
session_made held past p = session_made_by held past p (session_set p.entry.ask p.reply) (signed_user p.entry.ask)

-- the word was presented, and the login gives another
abbrev pub is_replaced : Option Word → Option Word → Word → Bool
is_replaced presented None w = false
is_replaced presented (Some left) w = is_word presented w && not (bytes_eq left w)

-- A session ends by a sign-out that presents it, and by a login that presents it and gives another.
abbrev pub ends_session : OpAsk → OpReply → Word → Bool
ends_session (SignOut session) (SignedOut messages) w = is_word session w
ends_session (Login turn signed b presented) reply w = is_replaced presented (session_given reply) w
ends_session ask reply w = false

-- An authorization response that uses the session adds its client.
abbrev pub session_kept : OpPast → OpPair → SessionRow → Option SessionRow
session_kept past p row =
    if ends_session p.entry.ask p.reply row.word
    then None
    else if is_word (session_used past p.entry.ask p.reply) row.word
    then Some (record row { clients = and_client (client_answered past p) row.clients })
    else Some row

abbrev pub sessions : OpPast → List SessionRow
sessions past = rows_by session_name session_made session_kept past

abbrev pub live_sessions : OpPast → ℕ → List SessionRow
live_sessions past at = live_rows session_life session_begun at (sessions past)

abbrev pub session_of : OpPast → Option Word → Option SessionRow
session_of past w = option_and_then (λ v. row_of session_name v (sessions past)) w

abbrev pub live_session : OpPast → ℕ → Option Word → Option SessionRow
live_session past at w = option_and_then (if_lives session_life session_begun at) (session_of past w)
