-- Requests that hold values of their types: texts in UTF-8, words of 32 bytes, numbers of their size. A definition takes any
-- list and any number for them; contracts about sealed texts need these bounds.
use Rattle.std.specs.Prelude.{◌<◌, ◌^◌, IfSome, Result, Ok, Err}
use Rattle.std.specs.Str.{IsUtf8}
use Rattle.sso_base.specs.Words.{IsWord}
use Rattle.auth_request.specs.declared.wish.Verdict.{Verdict}
use Rattle.auth_request.specs.declared.wish.Verdict.TheVariants as verdict
use Rattle.auth_request.specs.Values.{IsWishValue}
use Rattle.token_endpoint.specs.declared.granting.Grant.{Grant}
use Rattle.token_endpoint.specs.declared.no.GrantNo.{GrantNo}
use Rattle.token_endpoint.specs.declared.no.GrantNo.TheVariants.{Twice, Missing}
use Rattle.userinfo.specs.declared.header.Bearer.{Bearer}
use Rattle.userinfo.specs.declared.header.Bearer.TheVariants as bearer
use Rattle.op_exchange.specs.declared.ask.OpAsk.{OpAsk}
use Rattle.op_exchange.specs.declared.ask.OpAsk.TheVariants as ask

abbrev pub IsVerdictValue : Verdict → Type 0
IsVerdictValue (verdict.Page why) = Unit {0}
IsVerdictValue (verdict.Refuse refusal) = IsUtf8 refusal.redirect × IfSome refusal.state IsUtf8
IsVerdictValue (verdict.Grant wish) = IsWishValue wish

pub record IsGrantedValue (grant : Grant) : Type 0 where
  pub client : grant.client < 2 ^ 32
  pub code : IsUtf8 grant.code
  pub redirect : IsUtf8 grant.redirect

abbrev pub IsRefusedValue : GrantNo → Type 0
IsRefusedValue (Twice name) = IsUtf8 name
IsRefusedValue (Missing name) = IsUtf8 name
IsRefusedValue other = Unit {0}

abbrev pub IsGrantValue : Result Grant GrantNo → Type 0
IsGrantValue (Ok grant) = IsGrantedValue grant
IsGrantValue (Err why) = IsRefusedValue why

abbrev pub IsBearerValue : Bearer → Type 0
IsBearerValue bearer.Absent = Unit {0}
IsBearerValue bearer.Unreadable = Unit {0}
IsBearerValue (bearer.Given w) = IsWord w

abbrev pub IsOpAsk : OpAsk → Type 0
IsOpAsk (ask.Authorize verdict browser session) = IsVerdictValue verdict × IfSome browser IsWord × IfSome session IsWord
IsOpAsk (ask.Login turn signed browser session) =
    IfSome turn IsWord × IfSome signed (λ n. n < 2 ^ 32) × IfSome browser IsWord × IfSome session IsWord
IsOpAsk (ask.Consent turn agree browser session) = IfSome turn IsWord × IfSome browser IsWord × IfSome session IsWord
IsOpAsk (ask.Token grant) = IsGrantValue grant
IsOpAsk (ask.Info bearer) = IsBearerValue bearer
IsOpAsk (ask.SignOut session) = IfSome session IsWord
IsOpAsk ask.Metadata = Unit {0}
IsOpAsk ask.Keys = Unit {0}
IsOpAsk ask.Twice = Unit {0}
IsOpAsk ask.NotHere = Unit {0}
