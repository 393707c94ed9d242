-- The logout tokens that a relying party has accepted. It accepts each only once (OpenID Connect Back-Channel Logout 1.0, 2.6,
-- step 8).
use Rattle.std.specs.Prelude.{ℕ, ◌+◌, List, length, Option, Some, option_map, option_and_then}
use Rattle.sso_base.specs.Words.{Text}
use Rattle.sso_base.specs.Rows.{rows_by, row_of, live_rows, if_lives}
use Rattle.logout_token.specs.declared.claims.LogoutClaims.{LogoutClaims}
use Rattle.rp_login.specs.declared.rows.SeenRow.{SeenRow}
use Rattle.rp_login.specs.Rows.{seen_name, seen_begun}
use Rattle.oidc_words.specs.Lives.{seen_life}
use Rattle.rp_exchange.specs.declared.ask.RpAsk.{RpAsk}
use Rattle.rp_exchange.specs.declared.reply.RpReply.{RpReply}
use Rattle.rp_answer.specs.Past.{RpPair, RpPast}
use Rattle.rp_answer.specs.Asked.{token_accepted}

-- the record of an accepted token: its `jti`, the number of its pair in the history, counted from 1, and the moment
abbrev pub seen_of : ℕ → ℕ → LogoutClaims → SeenRow
seen_of before at claims = record { jti = claims.jti; place = before + 1; accepted = at }

-- A token is recorded if it is accepted.
abbrev pub seen_by : ℕ → ℕ → RpAsk → RpReply → Option SeenRow
seen_by before at asked reply = option_map (seen_of before at) (token_accepted asked reply)

abbrev pub seen_made : List SeenRow → RpPast → RpPair → Option SeenRow
seen_made held past p = seen_by (length past) p.entry.at p.entry.ask p.reply

-- Only its life ends it.
abbrev pub seen_kept : RpPast → RpPair → SeenRow → Option SeenRow
seen_kept past p row = Some row

abbrev pub seens : RpPast → List SeenRow
seens past = rows_by seen_name seen_made seen_kept past

abbrev pub live_seens : RpPast → ℕ → List SeenRow
live_seens past at = live_rows seen_life seen_begun at (seens past)

abbrev pub live_seen : RpPast → ℕ → Text → Option SeenRow
live_seen past at jti = option_and_then (if_lives seen_life seen_begun at) (row_of seen_name jti (seens past))
