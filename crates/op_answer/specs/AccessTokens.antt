-- Access tokens (RFC 6749, 1.4; RFC 6750).
use Rattle.std.specs.Prelude.{ℕ, Bool, false, ◌&&◌, List, ◌∷◌, length, Option, Some, None, option_and_then, Ok, if◌then◌else◌}
use Rattle.sso_base.specs.Words.{Word, is_word, word_of_text}
use Rattle.sso_base.specs.Rows.{rows_by, row_of, live_rows, if_lives}
use Rattle.auth_request.specs.declared.wish.Wish.{Wish}
use Rattle.code_grant.specs.declared.rows.SessionRow.{SessionRow}
use Rattle.code_grant.specs.declared.rows.CodeRow.{CodeRow}
use Rattle.code_grant.specs.declared.rows.TokenRow.{TokenRow}
use Rattle.code_grant.specs.Rows.{access_name, access_begun}
use Rattle.oidc_words.specs.Lives.{access_life}
use Rattle.op_exchange.specs.declared.ask.OpAsk.{OpAsk}
use Rattle.op_exchange.specs.declared.ask.OpAsk.TheVariants.{Token}
use Rattle.op_exchange.specs.declared.reply.OpReply.{OpReply}
use Rattle.op_exchange.specs.declared.reply.OpReply.TheVariants.{Answered, Tokens}
use Rattle.op_answer.specs.Past.{OpPair, OpPast}
use Rattle.op_answer.specs.Sessions.{wish_by, session_used, session_of}
use Rattle.op_answer.specs.Codes.{code_of, code_named, found_spent}

abbrev pub access_issued : ℕ → ℕ → Word → Option Word → Wish → ℕ → TokenRow
access_issued by at w code wish user =
    record { word = w; client = wish.client; user = user; scopes = wish.scopes; asked = wish.info_asked; code = code; issued = at; by = by }

-- An access token is made by an authorization response that has it, without a code, and by a token response, for its code.
abbrev pub access_answered : ℕ → ℕ → Option Word → Option Wish → Option SessionRow → Option TokenRow
access_answered by at (Some w) (Some wish) (Some session) = Some (access_issued by at w None wish session.user)
access_answered by at w wish session = None

abbrev pub access_redeemed : ℕ → ℕ → Word → Option CodeRow → Option TokenRow
access_redeemed by at w None = None
access_redeemed by at w (Some code) = Some (access_issued by at w (Some code.word) code.wish code.user)

abbrev pub access_given : OpPast → OpPair → OpAsk → OpReply → Option TokenRow
access_given past p (Token (Ok grant)) (Tokens w id) = access_redeemed (length past) p.entry.at w (code_of past (word_of_text grant.code))
access_given past p asked (Answered answer given) =
    access_answered (length past) p.entry.at answer.access (wish_by past asked) (session_of (p ∷ past) (session_used past asked (Answered answer given)))
access_given past p asked reply = None

abbrev pub access_made : List TokenRow → OpPast → OpPair → Option TokenRow
access_made held past p = access_given past p p.entry.ask p.reply

-- the access token was issued for this code
abbrev pub is_for_code : Option Word → Option Word → Bool
is_for_code code None = false
is_for_code code (Some w) = is_word code w

-- A token issued for a code ends when the code's client requests tokens for the code again and the code is spent (RFC 6749,
-- 4.1.2).
abbrev pub access_kept : OpPast → OpPair → TokenRow → Option TokenRow
access_kept past p row =
    if is_for_code row.code (code_named p.entry.ask) && found_spent past p.entry.at p.entry.ask then None else Some row

abbrev pub accesses : OpPast → List TokenRow
accesses past = rows_by access_name access_made access_kept past

abbrev pub live_accesses : OpPast → ℕ → List TokenRow
live_accesses past at = live_rows access_life access_begun at (accesses past)

abbrev pub access_token_of : OpPast → Word → Option TokenRow
access_token_of past w = row_of access_name w (accesses past)

abbrev pub live_access_token : OpPast → ℕ → Word → Option TokenRow
live_access_token past at w = option_and_then (if_lives access_life access_begun at) (access_token_of past w)
