-- Visits: the sessions of a relying party. Each belongs to one browser, which has its cookie.
use Rattle.std.specs.Prelude.{ℕ, Bool, false, List, ◌||◌, Option, Some, None, option_map, option_and_then, if◌then◌else◌}
use Rattle.sso_base.specs.Words.{Word, Text, is_word}
use Rattle.sso_base.specs.Rows.{rows_by, row_of, live_rows, if_lives}
use Rattle.id_token.specs.declared.claims.IdClaims.{IdClaims}
use Rattle.logout_token.specs.declared.claims.LogoutClaims.{LogoutClaims}
use Rattle.oidc_words.specs.declared.response_types.Types.{Types}
use Rattle.rp_login.specs.declared.rows.LoginRow.{LoginRow}
use Rattle.rp_login.specs.declared.rows.PendingRow.{PendingRow}
use Rattle.rp_login.specs.declared.rows.SessionRow.{SessionRow}
use Rattle.rp_login.specs.Named.{is_meant}
use Rattle.rp_login.specs.Rows.{visit_name, visit_begun}
use Rattle.oidc_words.specs.Lives.{visit_life}
use Rattle.rp_exchange.specs.declared.ask.RpAsk.{RpAsk}
use Rattle.rp_exchange.specs.declared.ask.RpAsk.TheVariants.{Callback, Tokens, Info, Leave}
use Rattle.rp_exchange.specs.declared.reply.RpReply.{RpReply}
use Rattle.rp_exchange.specs.declared.reply.RpReply.TheVariants.{Entered, Left}
use Rattle.rp_answer.specs.Past.{RpPair, RpPast}
use Rattle.rp_answer.specs.Asked.{state_named, claims_judged, token_accepted}
use Rattle.rp_answer.specs.Logins.{login_of}
use Rattle.rp_answer.specs.Pendings.{pending_of}

-- the nonce of the login that a request belongs to
abbrev pub nonce_by : Types → RpPast → RpAsk → Option Word
nonce_by types past (Callback heard id browser) =
    option_map (λ (login : LoginRow). login.nonce) (login_of past (state_named (Callback heard id browser)))
nonce_by types past (Tokens w came id) = option_map (λ (pending : PendingRow). pending.nonce) (pending_of types past w)
nonce_by types past asked = None

abbrev pub visit_of : ℕ → Word → Word → IdClaims → SessionRow
visit_of at w nonce claims = record { word = w; nonce = nonce; sub = claims.sub; sid = claims.sid; entered = at }

-- after UserInfo: the ID Token was verified before UserInfo was requested
abbrev pub visit_of_pending : ℕ → Word → PendingRow → Text → SessionRow
visit_of_pending at w pending sub = record { word = w; nonce = pending.nonce; sub = sub; sid = pending.sid; entered = at }

abbrev pub visit_after : ℕ → Word → PendingRow → Option SessionRow
visit_after at w pending = option_map (visit_of_pending at w pending) pending.sub

-- A visit has the nonce of its login, and the subject and the `sid` of the last ID Token that was verified for it.
abbrev pub visit_for : Types → ℕ → RpPast → Word → RpAsk → Option SessionRow
visit_for types at past w (Info answered came) = option_and_then (visit_after at w) (pending_of types past answered)
visit_for types at past w asked = option_and_then (λ nonce. option_map (visit_of at w nonce) (claims_judged types asked)) (nonce_by types past asked)

-- It begins when the reply is a new session.
abbrev pub visit_by : Types → ℕ → RpPast → RpAsk → RpReply → Option SessionRow
visit_by types at past asked (Entered w sub) = visit_for types at past w asked
visit_by types at past asked reply = None

abbrev pub visit_made : Types → List SessionRow → RpPast → RpPair → Option SessionRow
visit_made types held past p = visit_by types p.entry.at past p.entry.ask p.reply

-- the word of the session that the browser leaves
abbrev pub session_left : RpAsk → RpReply → Option Word
session_left (Leave session) (Left ended) = session
session_left asked reply = None

-- a logout token names the session: the session matches each part that the token has (OpenID Connect Back-Channel Logout 1.0,
-- 2.7)
abbrev pub is_named : Option LogoutClaims → SessionRow → Bool
is_named None row = false
is_named (Some claims) row = is_meant claims.sub claims.sid row

-- It ends when its browser leaves, and by an accepted logout token that names it.
abbrev pub visit_kept : RpPast → RpPair → SessionRow → Option SessionRow
visit_kept past p row = if is_word (session_left p.entry.ask p.reply) row.word || is_named (token_accepted p.entry.ask p.reply) row then None else Some row

abbrev pub visits : Types → RpPast → List SessionRow
visits types past = rows_by visit_name (visit_made types) visit_kept past

abbrev pub live_visits : Types → RpPast → ℕ → List SessionRow
live_visits types past at = live_rows visit_life visit_begun at (visits types past)

abbrev pub live_visit : Types → RpPast → ℕ → Option Word → Option SessionRow
live_visit types past at session =
    option_and_then (if_lives visit_life visit_begun at) (option_and_then (λ w. row_of visit_name w (visits types past)) session)
