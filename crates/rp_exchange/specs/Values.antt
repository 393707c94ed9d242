-- Asks that hold values of their types: texts in UTF-8, words of 32 bytes, numbers of their size. A definition takes any list
-- and any number for them; what is promised of texts that are written needs these. Those claims of an ID Token that are no
-- fields are claims that fit: names and texts in UTF-8, whole numbers of 64 bits, and each name once, in order.
use Rattle.std.specs.Prelude.{◌<◌, ◌^◌, Option, IfSome, Result, Ok, Err}
use Rattle.std.specs.Str.{IsUtf8}
use Rattle.sso_base.specs.Words.{Text, IsWord}
use Rattle.sso_base.specs.Values.{IsWide, AreTexts}
use Rattle.claim_set.specs.Fitting.{ClaimsFit}
use Rattle.claim_set.specs.declared.no.ClaimNo.{ClaimNo}
use Rattle.claim_set.specs.declared.no.ClaimNo.TheVariants as claim_no
use Rattle.id_token.specs.declared.claims.IdClaims.{IdClaims}
use Rattle.id_token.specs.declared.no.IdNo.{IdNo}
use Rattle.id_token.specs.declared.no.IdNo.TheVariants as id_no
use Rattle.logout_token.specs.declared.claims.LogoutClaims.{LogoutClaims}
use Rattle.logout_token.specs.declared.no.LogoutNo.{LogoutNo}
use Rattle.logout_token.specs.declared.no.LogoutNo.TheVariants as logout_no
use Rattle.auth_answer.specs.declared.heard.Heard.{Heard}
use Rattle.auth_answer.specs.declared.no.AnswerNo.{AnswerNo}
use Rattle.auth_answer.specs.declared.no.AnswerNo.TheVariants as answer_no
use Rattle.auth_answer.specs.Reading.{IsHeard}
use Rattle.token_endpoint.specs.declared.reading.Tokens.{Tokens}
use Rattle.token_endpoint.specs.declared.no.TokensNo.{TokensNo}
use Rattle.token_endpoint.specs.declared.no.TokensNo.TheVariants as tokens_no
use Rattle.userinfo.specs.declared.no.InfoNo.{InfoNo}
use Rattle.userinfo.specs.declared.no.InfoNo.TheVariants as info_no
use Rattle.rp_exchange.specs.declared.ask.RpAsk.{RpAsk}
use Rattle.rp_exchange.specs.declared.ask.RpAsk.TheVariants as ask

-- ---- what is read

pub record IsIdValue (claims : IdClaims) : Type 0 where
  pub iss : IsUtf8 claims.iss
  pub sub : IsUtf8 claims.sub
  pub aud : AreTexts claims.aud
  pub azp : IfSome claims.azp IsUtf8
  pub exp : IsWide claims.exp
  pub iat : IsWide claims.iat
  pub auth_time : IfSome claims.auth_time IsWide
  pub nonce : IfSome claims.nonce IsUtf8
  pub sid : IfSome claims.sid IsUtf8
  pub at_hash : IfSome claims.at_hash IsUtf8
  pub c_hash : IfSome claims.c_hash IsUtf8
  pub more : ClaimsFit claims.more

pub record IsLogoutValue (claims : LogoutClaims) : Type 0 where
  pub iss : IsUtf8 claims.iss
  pub aud : AreTexts claims.aud
  pub iat : IsWide claims.iat
  pub exp : IsWide claims.exp
  pub jti : IsUtf8 claims.jti
  pub sub : IfSome claims.sub IsUtf8
  pub sid : IfSome claims.sid IsUtf8

abbrev pub IsTokensValue : Tokens → Type 0
IsTokensValue tokens = IsUtf8 tokens.access × IsUtf8 tokens.id

-- ---- why it is refused: names, a status, and moments

abbrev pub IsClaimNoValue : ClaimNo → Type 0
IsClaimNoValue (claim_no.WrongKind name) = IsUtf8 name
IsClaimNoValue other = Unit {0}

abbrev pub IsAnswerNoValue : AnswerNo → Type 0
IsAnswerNoValue (answer_no.Twice name) = IsUtf8 name
IsAnswerNoValue answer_no.NoMemory = Unit {0}

abbrev pub IsIdNoValue : IdNo → Type 0
IsIdNoValue (id_no.Claims why) = IsClaimNoValue why
IsIdNoValue (id_no.Missing name) = IsUtf8 name
IsIdNoValue (id_no.Expired exp) = IsWide exp
IsIdNoValue (id_no.TooOld iat) = IsWide iat
IsIdNoValue (id_no.FromFuture iat) = IsWide iat
IsIdNoValue other = Unit {0}

abbrev pub IsTokensNoValue : TokensNo → Type 0
IsTokensNoValue (tokens_no.Status status) = status < 2 ^ 16
IsTokensNoValue (tokens_no.Claims why) = IsClaimNoValue why
IsTokensNoValue (tokens_no.Missing name) = IsUtf8 name
IsTokensNoValue other = Unit {0}

abbrev pub IsInfoNoValue : InfoNo → Type 0
IsInfoNoValue (info_no.Status status) = status < 2 ^ 16
IsInfoNoValue (info_no.Claims why) = IsClaimNoValue why
IsInfoNoValue other = Unit {0}

abbrev pub IsLogoutNoValue : LogoutNo → Type 0
IsLogoutNoValue (logout_no.Claims why) = IsClaimNoValue why
IsLogoutNoValue (logout_no.Missing name) = IsUtf8 name
IsLogoutNoValue (logout_no.Expired exp) = IsWide exp
IsLogoutNoValue (logout_no.TooOld iat) = IsWide iat
IsLogoutNoValue (logout_no.FromFuture iat) = IsWide iat
IsLogoutNoValue other = Unit {0}

-- ---- requests

abbrev pub IsHeardRead : Result Heard AnswerNo → Type 0
IsHeardRead (Ok heard) = IsHeard heard
IsHeardRead (Err why) = IsAnswerNoValue why

abbrev pub IsClaimsRead : Result IdClaims IdNo → Type 0
IsClaimsRead (Ok claims) = IsIdValue claims
IsClaimsRead (Err why) = IsIdNoValue why

abbrev pub IsIdRead : Option (Result IdClaims IdNo) → Type 0
IsIdRead id = IfSome id IsClaimsRead

abbrev pub IsTokensRead : Result Tokens TokensNo → Type 0
IsTokensRead (Ok tokens) = IsTokensValue tokens
IsTokensRead (Err why) = IsTokensNoValue why

abbrev pub IsSubRead : Result Text InfoNo → Type 0
IsSubRead (Ok sub) = IsUtf8 sub
IsSubRead (Err why) = IsInfoNoValue why

abbrev pub IsLogoutRead : Result LogoutClaims LogoutNo → Type 0
IsLogoutRead (Ok claims) = IsLogoutValue claims
IsLogoutRead (Err why) = IsLogoutNoValue why

abbrev pub IsRpAsk : RpAsk → Type 0
IsRpAsk (ask.Begin browser) = IfSome browser IsWord
IsRpAsk ask.Fragment = Unit {0}
IsRpAsk (ask.Callback heard id browser) = IsHeardRead heard × IsIdRead id × IfSome browser IsWord
IsRpAsk (ask.Tokens pending tokens id) = IsWord pending × IsTokensRead tokens × IsIdRead id
IsRpAsk (ask.Info pending sub) = IsWord pending × IsSubRead sub
IsRpAsk (ask.Visit session) = IfSome session IsWord
IsRpAsk (ask.Leave session) = IfSome session IsWord
IsRpAsk (ask.Logout claims) = IsLogoutRead claims
IsRpAsk ask.NotHere = Unit {0}
