-- The parsed request to the provider is one that its core accepts.
use Rattle.std.proofs.Common.{◌≡◌, true, ap, ◌∙◌}
use Rattle.sso_base.specs.declared.http.Ask.{Ask}
use Rattle.client_registry.specs.Configuration.{Configuration}
use Rattle.client_registry.specs.Registered.{IsRegistry}
use Rattle.op_exchange.specs.Asks.{is_prepared}
use Rattle.op_exchange.specs.declared.ask.OpAsk.{OpAsk}
use Rattle.op_request.specs.Prepared.{prepared as op_prepared}
use Rattle.op_request.proofs.PreparedAsks.{always_prepared}

pub asked_is_prepared : (c r : Configuration) (asked : OpAsk) (request : Ask) → IsRegistry c → r ≡ c → asked ≡ op_prepared c request → is_prepared r asked ≡ true
asked_is_prepared c r asked request read registry asks =
    ap (λ (d : Configuration). is_prepared d asked) registry ∙ ap (λ (a : OpAsk). is_prepared c a) asks ∙ always_prepared c request read
