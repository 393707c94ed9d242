-- Codes (RFC 6749, 4.1.2), and the result of a token request for one (RFC 6749, 4.1.3 and 10.5; OpenID Connect Core 1.0,
-- 3.1.3.2).
use Rattle.std.specs.Prelude.{ℕ, Bool, true, false, ◌&&◌, List, ◌∷◌, length, Option, Some, None, option_and_then, Ok, if◌then◌else◌}
use Rattle.sso_base.specs.Words.{Word, is_word, word_of_text}
use Rattle.sso_base.specs.Rows.{rows_by, row_of, live_rows, if_lives}
use Rattle.auth_request.specs.declared.wish.Wish.{Wish}
use Rattle.token_endpoint.specs.declared.granting.Grant.{Grant}
use Rattle.code_grant.specs.declared.rows.SessionRow.{SessionRow}
use Rattle.code_grant.specs.declared.rows.CodeRow.{CodeRow}
use Rattle.code_grant.specs.declared.redeem.Redeem.{Redeem}
use Rattle.code_grant.specs.declared.redeem.Redeem.TheVariants.{Spent}
use Rattle.code_grant.specs.Rows.{code_name, code_begun}
use Rattle.oidc_words.specs.Lives.{code_life}
use Rattle.code_grant.specs.Redeeming.{redeem_of}
use Rattle.op_exchange.specs.declared.ask.OpAsk.{OpAsk}
use Rattle.op_exchange.specs.declared.ask.OpAsk.TheVariants.{Token}
use Rattle.op_exchange.specs.declared.reply.OpReply.{OpReply}
use Rattle.op_exchange.specs.declared.reply.OpReply.TheVariants.{Tokens}
use Rattle.op_exchange.specs.Replied.{code_in}
use Rattle.op_answer.specs.Past.{OpPair, OpPast}
use Rattle.op_answer.specs.Sessions.{wish_by, session_used, session_of}

-- ---- the rows

abbrev pub code_issued : ℕ → ℕ → Word → Wish → SessionRow → CodeRow
code_issued by at w wish session =
    record { word = w; wish = wish; user = session.user; sid = session.sid; auth_time = session.auth_time; issued = at; spent = false; by = by }

-- A code is made by an authorization response that has it, with the wish and the session of that response.
abbrev pub code_made_by : ℕ → ℕ → Option Word → Option Wish → Option SessionRow → Option CodeRow
code_made_by by at (Some w) (Some wish) (Some session) = Some (code_issued by at w wish session)
code_made_by by at w wish session = None

abbrev pub code_made : List CodeRow → OpPast → OpPair → Option CodeRow
code_made held past p =
    code_made_by (length past) p.entry.at (code_in p.reply) (wish_by past p.entry.ask)
    (session_of (p ∷ past) (session_used past p.entry.ask p.reply))

-- the code of an authenticated token request
abbrev pub code_named : OpAsk → Option Word
code_named (Token (Ok grant)) = word_of_text grant.code
code_named ask = None

abbrev pub is_tokens : OpReply → Bool
is_tokens (Tokens access id) = true
is_tokens reply = false

-- A code is spent if a later token request for it got tokens.
abbrev pub code_kept : OpPast → OpPair → CodeRow → Option CodeRow
code_kept past p row =
    if is_word (code_named p.entry.ask) row.word && is_tokens p.reply then Some (record row { spent = true }) else Some row

abbrev pub codes_issued : OpPast → List CodeRow
codes_issued past = rows_by code_name code_made code_kept past

abbrev pub held_codes : OpPast → ℕ → List CodeRow
held_codes past at = live_rows code_life code_begun at (codes_issued past)

abbrev pub code_of : OpPast → Option Word → Option CodeRow
code_of past w = option_and_then (λ v. row_of code_name v (codes_issued past)) w

abbrev pub held_code : OpPast → ℕ → Option Word → Option CodeRow
held_code past at w = option_and_then (if_lives code_life code_begun at) (code_of past w)

-- ---- the result of a token request

abbrev pub redeem : OpPast → ℕ → Grant → Redeem
redeem past at grant = redeem_of grant.client grant.redirect at (held_code past at (word_of_text grant.code))

abbrev pub is_spent : Redeem → Bool
is_spent Spent = true
is_spent other = false

-- a token request that finds its client's code spent
abbrev pub found_spent : OpPast → ℕ → OpAsk → Bool
found_spent past at (Token (Ok grant)) = is_spent (redeem past at grant)
found_spent past at ask = false
