-- The values of `RpAsk` that a request or a provider's response can produce.
use Rattle.std.specs.Prelude.{Bool, true, false, not, ◌&&◌, ◌||◌, Option, Some, None, is_some, is_none, Result, Ok, Err}
use Rattle.sso_base.specs.Words.{Text}
use Rattle.id_token.specs.declared.claims.IdClaims.{IdClaims}
use Rattle.id_token.specs.declared.no.IdNo.{IdNo}
use Rattle.id_token.specs.declared.no.IdNo.TheVariants as id_no
use Rattle.id_token.specs.Reading as id_token
use Rattle.logout_token.specs.declared.claims.LogoutClaims.{LogoutClaims}
use Rattle.logout_token.specs.declared.no.LogoutNo.{LogoutNo}
use Rattle.logout_token.specs.declared.no.LogoutNo.TheVariants as logout_no
use Rattle.logout_token.specs.LogoutToken as logout_token
use Rattle.auth_answer.specs.declared.no.AnswerNo.TheVariants as answer_no
use Rattle.token_endpoint.specs.declared.no.TokensNo.{TokensNo}
use Rattle.token_endpoint.specs.declared.no.TokensNo.TheVariants as tokens_no
use Rattle.token_endpoint.specs.Answer as tokens
use Rattle.userinfo.specs.declared.no.InfoNo.{InfoNo}
use Rattle.userinfo.specs.declared.no.InfoNo.TheVariants as info_no
use Rattle.userinfo.specs.Answer as info
use Rattle.rp_exchange.specs.declared.ask.RpAsk.{RpAsk}
use Rattle.rp_exchange.specs.declared.ask.RpAsk.TheVariants as ask

-- ---- errors without `NoMemory`, also inside

abbrev pub is_id_refusal : IdNo → Bool
is_id_refusal id_no.NoMemory = false
is_id_refusal why = not (id_token.hides_memory why)

abbrev pub is_tokens_refusal : TokensNo → Bool
is_tokens_refusal tokens_no.NoMemory = false
is_tokens_refusal why = not (tokens.hides_memory why)

abbrev pub is_info_refusal : InfoNo → Bool
is_info_refusal info_no.NoMemory = false
is_info_refusal why = not (info.hides_memory why)

abbrev pub is_logout_refusal : LogoutNo → Bool
is_logout_refusal logout_no.NoMemory = false
is_logout_refusal why = not (logout_token.hides_memory why)

-- ---- what was read, or why it was rejected

abbrev pub is_id_read : Result IdClaims IdNo → Bool
is_id_read (Ok claims) = true
is_id_read (Err why) = is_id_refusal why

-- an ID Token was read if and only if its text is present
abbrev pub is_read_of : Option Text → Option (Result IdClaims IdNo) → Bool
is_read_of None id = is_none id
is_read_of (Some text) None = false
is_read_of (Some text) (Some id) = is_id_read id

abbrev pub is_info_read : Result Text InfoNo → Bool
is_info_read (Ok sub) = true
is_info_read (Err why) = is_info_refusal why

-- a logout token that was read names a user or a session (Back-Channel Logout 1.0, 2.4)
abbrev pub is_logout_read : Result LogoutClaims LogoutNo → Bool
is_logout_read (Ok claims) = is_some claims.sub || is_some claims.sid
is_logout_read (Err why) = is_logout_refusal why

abbrev pub is_prepared : RpAsk → Bool
is_prepared (ask.Callback (Ok heard) id browser) = is_read_of heard.id id
is_prepared (ask.Callback (Err (answer_no.Twice name)) id browser) = is_none id
is_prepared (ask.Callback (Err answer_no.NoMemory) id browser) = false
is_prepared (ask.Tokens pending (Ok tokens) id) = is_read_of (Some tokens.id) id
is_prepared (ask.Tokens pending (Err why) id) = is_tokens_refusal why && is_none id
is_prepared (ask.Info pending sub) = is_info_read sub
is_prepared (ask.Logout claims) = is_logout_read claims
is_prepared other = true
