-- Pending exchanges: a token request (OpenID Connect Core 1.0, 3.1.3) or a UserInfo request (5.3) that is waiting for its
-- response.
use Rattle.std.specs.Prelude.{ℕ, Bool, true, false, ◌&&◌, List, Option, Some, None, option_map, option_and_then, if◌then◌else◌}
use Rattle.std.specs.Str.{bytes_eq}
use Rattle.sso_base.specs.Words.{Word}
use Rattle.sso_base.specs.Rows.{rows_by, row_of, live_rows, if_lives}
use Rattle.oidc_words.specs.declared.response_types.Types.{Types}
use Rattle.rp_login.specs.declared.rows.LoginRow.{LoginRow}
use Rattle.rp_login.specs.declared.rows.PendingRow.{PendingRow}
use Rattle.rp_login.specs.declared.rows.Stage.{Stage}
use Rattle.rp_login.specs.declared.rows.Stage.TheVariants as stage
use Rattle.rp_login.specs.Rows.{pending_name, pending_begun}
use Rattle.oidc_words.specs.Lives.{pending_life}
use Rattle.rp_exchange.specs.declared.ask.RpAsk.{RpAsk}
use Rattle.rp_exchange.specs.declared.ask.RpAsk.TheVariants as ask
use Rattle.rp_exchange.specs.declared.no.RpNo.TheVariants as no
use Rattle.rp_exchange.specs.declared.reply.RpReply.{RpReply}
use Rattle.rp_exchange.specs.declared.reply.RpReply.TheVariants.{Exchange, Fetch, Refused, NotHere}
use Rattle.rp_answer.specs.Past.{RpPair, RpPast}
use Rattle.rp_answer.specs.Asked.{state_named, code_heard, claims_judged, sub_in, sid_in}
use Rattle.rp_answer.specs.Logins.{login_of}

-- ---- the response that an exchange is waiting for

abbrev pub is_stage : Stage → Stage → Bool
is_stage stage.Tokens stage.Tokens = true
is_stage stage.Tokens stage.Info = false
is_stage stage.Info stage.Tokens = false
is_stage stage.Info stage.Info = true

abbrev pub if_stage : Stage → PendingRow → Option PendingRow
if_stage wanted row = if is_stage wanted row.stage then Some row else None

-- ---- how it is made

-- the pending exchange after the response of a login
abbrev pub pending_started : Types → ℕ → RpAsk → Word → Stage → LoginRow → PendingRow
pending_started types at asked w waits login =
    record {
      word = w;
      nonce = login.nonce;
      begun = login.begun;
      since = at;
      sub = sub_in (claims_judged types asked);
      sid = sid_in (claims_judged types asked);
      code = code_heard types asked;
      stage = waits;
      by = login.by;
    }

-- the pending exchange after a token response: a UserInfo request, with the subject and `sid` of its ID Token, and the earlier
-- code
abbrev pub pending_followed : Types → ℕ → RpAsk → Word → PendingRow → PendingRow
pending_followed types at asked w before =
    record before {
      word = w;
      since = at;
      sub = sub_in (claims_judged types asked);
      sid = sid_in (claims_judged types asked);
      stage = stage.Info;
    }

-- after the response of a login
abbrev pub started_by : Types → ℕ → RpPast → RpAsk → Word → Stage → Option PendingRow
started_by types at past asked w waits = option_map (pending_started types at asked w waits) (login_of past (state_named asked))

-- after the token response to one of these exchanges
abbrev pub followed_by : Types → ℕ → List PendingRow → RpAsk → Word → Word → Option PendingRow
followed_by types at held asked answered w =
    option_map (pending_followed types at asked w) (option_and_then (if_stage stage.Tokens) (row_of pending_name answered held))

-- UserInfo is requested after the token response, or at once
abbrev pub fetched_by : Types → ℕ → RpPast → List PendingRow → Word → RpAsk → Option PendingRow
fetched_by types at past held w (ask.Tokens answered came id) = followed_by types at held (ask.Tokens answered came id) answered w
fetched_by types at past held w asked = started_by types at past asked w stage.Info

-- A pending exchange is made if a code is exchanged, and if UserInfo is requested.
abbrev pub pending_by : Types → ℕ → RpPast → List PendingRow → RpAsk → RpReply → Option PendingRow
pending_by types at past held asked (Exchange w message) = started_by types at past asked w stage.Tokens
pending_by types at past held asked (Fetch w message) = fetched_by types at past held w asked
pending_by types at past held asked reply = None

abbrev pub pending_made : Types → List PendingRow → RpPast → RpPair → Option PendingRow
pending_made types held past p = pending_by types p.entry.at past held p.entry.ask p.reply

-- ---- how it ends

-- the word of the exchange that a response belongs to, and the kind of that response
abbrev pub answer_named : RpAsk → Option (Word × Stage)
answer_named (ask.Tokens answered came id) = Some (answered, stage.Tokens)
answer_named (ask.Info answered came) = Some (answered, stage.Info)
answer_named asked = None

abbrev pub is_answered : Option (Word × Stage) → PendingRow → Bool
is_answered None row = false
is_answered (Some named) row = bytes_eq named.0 row.word && is_stage named.1 row.stage

abbrev pub ends_pending : RpReply → Bool
ends_pending NotHere = false
ends_pending (Refused (no.Full table)) = false
ends_pending reply = true

-- It ends with the first response that it is waiting for, valid or not, unless there is no room.
abbrev pub pending_kept : RpPast → RpPair → PendingRow → Option PendingRow
pending_kept past p row = if is_answered (answer_named p.entry.ask) row && ends_pending p.reply then None else Some row

abbrev pub pendings : Types → RpPast → List PendingRow
pendings types past = rows_by pending_name (pending_made types) pending_kept past

-- ---- those that live

abbrev pub live_pendings : Types → RpPast → ℕ → List PendingRow
live_pendings types past at = live_rows pending_life pending_begun at (pendings types past)

abbrev pub pending_of : Types → RpPast → Word → Option PendingRow
pending_of types past w = row_of pending_name w (pendings types past)

-- the live exchange with this word, with any response pending
abbrev pub any_live_pending : Types → RpPast → ℕ → Word → Option PendingRow
any_live_pending types past at w = option_and_then (if_lives pending_life pending_begun at) (pending_of types past w)

-- the live exchange with this word that is waiting for this response
abbrev pub live_pending : Types → RpPast → ℕ → Word → Stage → Option PendingRow
live_pending types past at w wanted = option_and_then (if_stage wanted) (any_live_pending types past at w)
