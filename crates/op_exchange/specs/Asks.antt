-- The values of `OpAsk` that reading a request can produce.
use Rattle.std.specs.Prelude.{Bool, true, false, ◌&&◌, Some, Ok, Err}
use Rattle.client_registry.specs.Configuration.{Configuration}
use Rattle.client_registry.specs.Numbers.{is_client, is_user}
use Rattle.auth_request.specs.declared.wish.Wish.{Wish}
use Rattle.auth_request.specs.declared.wish.Verdict.{Verdict}
use Rattle.auth_request.specs.declared.wish.Verdict.TheVariants as verdict
use Rattle.auth_request.specs.Values.{is_short_nonce}
use Rattle.token_endpoint.specs.declared.no.GrantNo.TheVariants as grant_no
use Rattle.op_exchange.specs.declared.ask.OpAsk.{OpAsk}
use Rattle.op_exchange.specs.declared.ask.OpAsk.TheVariants as ask

abbrev pub is_prepared_wish : Configuration → Wish → Bool
is_prepared_wish c wish = is_client c wish.client && is_short_nonce wish.nonce && wish.scopes.openid

abbrev pub is_prepared_verdict : Configuration → Verdict → Bool
is_prepared_verdict c (verdict.Grant wish) = is_prepared_wish c wish
is_prepared_verdict c other = true

-- reading a request produces numbers of the registry, nonces of at most 255 bytes and the scope value `openid`, and never
-- `NoMemory`
abbrev pub is_prepared : Configuration → OpAsk → Bool
is_prepared c (ask.Authorize verdict browser session) = is_prepared_verdict c verdict
is_prepared c (ask.Login turn (Some user) browser session) = is_user c user
is_prepared c (ask.Token (Ok grant)) = is_client c grant.client
is_prepared c (ask.Token (Err grant_no.NoMemory)) = false
is_prepared c other = true
