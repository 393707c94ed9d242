-- The session identifiers that accepted logout tokens named. While one is remembered, no session with it begins: its logout
-- came first (our choice).
use Rattle.std.specs.Prelude.{ℕ, ◌+◌, List, length, Option, Some, option_map, option_and_then}
use Rattle.sso_base.specs.Words.{Text}
use Rattle.sso_base.specs.Rows.{rows_by, row_of, live_rows, if_lives}
use Rattle.logout_token.specs.declared.claims.LogoutClaims.{LogoutClaims}
use Rattle.rp_login.specs.declared.rows.DeadRow.{DeadRow}
use Rattle.rp_login.specs.Rows.{dead_name, dead_begun}
use Rattle.oidc_words.specs.Lives.{seen_life}
use Rattle.rp_exchange.specs.declared.ask.RpAsk.{RpAsk}
use Rattle.rp_exchange.specs.declared.reply.RpReply.{RpReply}
use Rattle.rp_answer.specs.Past.{RpPair, RpPast}
use Rattle.rp_answer.specs.Asked.{token_accepted}

-- the record of a session identifier: itself, the number of its pair in the history, counted from 1, and the moment
abbrev pub dead_at : ℕ → ℕ → Text → DeadRow
dead_at before at sid = record { sid = sid; place = before + 1; accepted = at }

abbrev pub dead_of : ℕ → ℕ → LogoutClaims → Option DeadRow
dead_of before at claims = option_map (dead_at before at) claims.sid

-- a pair that accepts a logout token with a `sid` records this `sid`
abbrev pub dead_by : ℕ → ℕ → RpAsk → RpReply → Option DeadRow
dead_by before at asked reply = option_and_then (dead_of before at) (token_accepted asked reply)

abbrev pub dead_made : List DeadRow → RpPast → RpPair → Option DeadRow
dead_made held past p = dead_by (length past) p.entry.at p.entry.ask p.reply

-- no pair ends a record; it lives for its time, or until a later token with this `sid` replaces it
abbrev pub dead_kept : RpPast → RpPair → DeadRow → Option DeadRow
dead_kept past p row = Some row

abbrev pub deads : RpPast → List DeadRow
deads past = rows_by dead_name dead_made dead_kept past

abbrev pub live_deads : RpPast → ℕ → List DeadRow
live_deads past at = live_rows seen_life dead_begun at (deads past)

abbrev pub live_dead : RpPast → ℕ → Text → Option DeadRow
live_dead past at sid = option_and_then (if_lives seen_life dead_begun at) (row_of dead_name sid (deads past))
