-- Requests for offline access (OpenID Connect Core 1.0, 11).
use Rattle.std.specs.Prelude.{Bool, false, ◌&&◌, codes, Option, Some}
use Rattle.sso_base.specs.declared.http.Ask.{Ask}
use Rattle.client_registry.specs.Configuration.{Configuration}
use Rattle.auth_request.specs.declared.wish.Wish.{Wish}
use Rattle.auth_request.specs.declared.wish.Verdict.TheVariants.{Grant}
use Rattle.op_exchange.specs.declared.ask.OpAsk.{OpAsk}
use Rattle.op_exchange.specs.declared.ask.OpAsk.TheVariants.{Authorize}
use Rattle.op_request.specs.Prepared.{asks_for_scope}

-- the user is asked for consent, and the response type has `code`
abbrev pub may_be_offline : Wish → Bool
may_be_offline wish = wish.consent && wish.types.code

abbrev pub asks_offline : Configuration → Ask → Option OpAsk → Bool
asks_offline c request (Some (Authorize (Grant wish) browser session)) = may_be_offline wish && asks_for_scope c request (codes "offline_access")
asks_offline c request asked = false
