-- The weight of a request: 1,024 and the bytes of its texts.
use Rattle.std.specs.Prelude.{ℕ, ◌+◌, length, Result, Ok, Err}
use Rattle.sso_base.specs.Weights.{empty_weight, text_bytes, texts_bytes, texts_bytes_if}
use Rattle.auth_request.specs.declared.wish.Wish.{Wish}
use Rattle.auth_request.specs.declared.wish.Verdict.{Verdict}
use Rattle.auth_request.specs.declared.wish.Verdict.TheVariants as verdict
use Rattle.token_endpoint.specs.declared.granting.Grant.{Grant}
use Rattle.token_endpoint.specs.declared.no.GrantNo.{GrantNo}
use Rattle.token_endpoint.specs.declared.no.GrantNo.TheVariants.{Twice, Missing}
use Rattle.op_exchange.specs.declared.ask.OpAsk.{OpAsk}
use Rattle.op_exchange.specs.declared.ask.OpAsk.TheVariants.{Authorize, Token}

abbrev pub wish_bytes : Wish → ℕ
wish_bytes wish =
    length wish.redirect + text_bytes wish.state + text_bytes wish.nonce + texts_bytes_if wish.subs + texts_bytes wish.id_asked + texts_bytes wish.info_asked

abbrev pub verdict_bytes : Verdict → ℕ
verdict_bytes (verdict.Page why) = 0
verdict_bytes (verdict.Refuse refusal) = length refusal.redirect + text_bytes refusal.state
verdict_bytes (verdict.Grant wish) = wish_bytes wish

abbrev pub refused_bytes : GrantNo → ℕ
refused_bytes (Twice name) = length name
refused_bytes (Missing name) = length name
refused_bytes other = 0

abbrev pub grant_bytes : Result Grant GrantNo → ℕ
grant_bytes (Ok grant) = length grant.code + length grant.redirect
grant_bytes (Err why) = refused_bytes why

abbrev pub ask_bytes : OpAsk → ℕ
ask_bytes (Authorize judged browser session) = verdict_bytes judged
ask_bytes (Token grant) = grant_bytes grant
ask_bytes other = 0

abbrev pub ask_weight : OpAsk → ℕ
ask_weight asked = empty_weight + ask_bytes asked
