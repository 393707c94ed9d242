-- The request in an HTTP request, and a reply as it is sent.
use Rattle.std.specs.Prelude.{Option, Some}
use Rattle.sso_base.specs.declared.http.Ask.{Ask}
use Rattle.sso_base.specs.declared.http.HttpReply.{HttpReply}
use Rattle.client_registry.specs.Configuration.{Configuration}
use Rattle.request_params.specs.Form.{form_of, posted}
use Rattle.op_exchange.specs.declared.ask.OpAsk.{OpAsk}
use Rattle.op_exchange.specs.declared.ask.OpAsk.TheVariants.{Authorize, Token}
use Rattle.op_response.specs.Telling.{http_of}
use Rattle.pkce_answer.specs.declared.asks.Challenge.{Challenge}
use Rattle.pkce_answer.specs.declared.asks.Challenge.TheVariants as challenge
use Rattle.pkce_answer.specs.declared.asks.Verifier.{Verifier}
use Rattle.pkce_answer.specs.declared.asks.Verifier.TheVariants as verifier
use Rattle.pkce_answer.specs.declared.asks.PkceAsk.{PkceAsk}
use Rattle.pkce_answer.specs.declared.asks.PkceReply.{PkceReply}
use Rattle.pkce_answer.specs.declared.asks.PkceReply.TheVariants.{Through, Own}
use Rattle.pkce_check.specs.Reading.{challenge_read, verifier_read}

-- an authorization request may have a challenge, which is read beside its request object
abbrev pub challenge_asked : Ask → Option OpAsk → Challenge
challenge_asked request (Some (Authorize verdict browser session)) = challenge_read (form_of request.method request)
challenge_asked request asked = challenge.Absent

-- a token request may have a verifier
abbrev pub verifier_asked : Ask → Option OpAsk → Verifier
verifier_asked request (Some (Token grant)) = verifier_read (posted request.body)
verifier_asked request asked = verifier.Absent

abbrev pub asked_around : {A : Type 0} → (A → Option OpAsk) → Ask → A → PkceAsk A
asked_around plain request inner =
    record { inner = inner; challenge = challenge_asked request (plain inner); verifier = verifier_asked request (plain inner) }

-- a request without further parameters
abbrev pub alone : {A : Type 0} → A → PkceAsk A
alone inner = record { inner = inner; challenge = challenge.Absent; verifier = verifier.Absent }

abbrev pub outer_http : {R : Type 0} → (Configuration → R → HttpReply) → Configuration → PkceReply R → HttpReply
outer_http http c (Through reply) = http c reply
outer_http http c (Own reply) = http_of c reply
