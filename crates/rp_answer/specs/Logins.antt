-- Logins: from the start of a login to its callback (OpenID Connect Core 1.0, 3.1.2.1, `state` and `nonce`).
use Rattle.std.specs.Prelude.{ℕ, Bool, true, false, not, ◌&&◌, List, length, Option, Some, None, option_and_then, if◌then◌else◌}
use Rattle.std.specs.Str.{bytes_eq}
use Rattle.std.specs.List.{list_any}
use Rattle.sso_base.specs.Words.{Word, is_word, fresh_word}
use Rattle.sso_base.specs.Rows.{rows_by, row_of, live_rows, if_lives}
use Rattle.rp_login.specs.declared.rows.LoginRow.{LoginRow}
use Rattle.rp_login.specs.Rows.{login_name, login_begun}
use Rattle.oidc_words.specs.Lives.{login_life}
use Rattle.rp_exchange.specs.declared.ask.RpAsk.{RpAsk}
use Rattle.rp_exchange.specs.declared.ask.RpAsk.TheVariants.{Begin}
use Rattle.rp_exchange.specs.declared.no.RpNo.{RpNo}
use Rattle.rp_exchange.specs.declared.no.RpNo.TheVariants as no
use Rattle.rp_exchange.specs.declared.reply.RpReply.{RpReply}
use Rattle.rp_exchange.specs.declared.reply.RpReply.TheVariants.{Ask, Refused, NotHere}
use Rattle.rp_answer.specs.Past.{RpPair, RpPast}
use Rattle.rp_answer.specs.Asked.{state_named}

-- A login is begun by an authorization request. Its state and nonce are drawn, and its browser is the one whose cookie is set.
abbrev pub login_started : ℕ → ℕ → List Word → RpAsk → RpReply → Option LoginRow
login_started by at fresh (Begin presented) (Ask to browser) =
    Some (record { state = fresh_word fresh 1; nonce = fresh_word fresh 2; browser = browser; begun = at; by = by })
login_started by at fresh asked reply = None

abbrev pub login_made : List LoginRow → RpPast → RpPair → Option LoginRow
login_made held past p = login_started (length past) p.entry.at p.entry.fresh p.entry.ask p.reply

-- the errors of an authorization response that does not belong to the login, or for which there is no room
abbrev pub leaves_login : RpNo → Bool
leaves_login (no.Twice name) = true
leaves_login no.NoState = true
leaves_login no.StaleLogin = true
leaves_login no.WrongBrowser = true
leaves_login (no.Full table) = true
leaves_login other = false

abbrev pub ends_login : RpReply → Bool
ends_login NotHere = false
ends_login (Refused why) = not (leaves_login why)
ends_login reply = true

-- A login ends with the first authorization response with its state from its own browser, valid or not.
abbrev pub login_kept : RpPast → RpPair → LoginRow → Option LoginRow
login_kept past p row = if is_word (state_named p.entry.ask) row.state && ends_login p.reply then None else Some row

abbrev pub logins : RpPast → List LoginRow
logins past = rows_by login_name login_made login_kept past

abbrev pub live_logins : RpPast → ℕ → List LoginRow
live_logins past at = live_rows login_life login_begun at (logins past)

abbrev pub login_of : RpPast → Option Word → Option LoginRow
login_of past state = option_and_then (λ w. row_of login_name w (logins past)) state

abbrev pub live_login : RpPast → ℕ → Option Word → Option LoginRow
live_login past at state = option_and_then (if_lives login_life login_begun at) (login_of past state)

-- a live login belongs to this browser
abbrev pub has_login_browser : RpPast → ℕ → Word → Bool
has_login_browser past at browser = list_any (λ (login : LoginRow). bytes_eq login.browser browser) (live_logins past at)
