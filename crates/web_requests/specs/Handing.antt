-- The printed reply of one role, passed to the party that waits for it.
use Rattle.std.specs.Prelude.{ℕ, Option, Some, None, option_and_then}
use Rattle.sso_base.specs.declared.http.HttpReply.{HttpReply}
use Rattle.sso_base.specs.declared.message.Answered.{Answered}
use Rattle.client_registry.specs.Configuration.{Configuration}
use Rattle.op_response.specs.Telling.{http_of as op_http}
use Rattle.rp_exchange.specs.declared.reply.RpReply.TheVariants as rp
use Rattle.rp_response.specs.Telling.{http_of as rp_http}
use Rattle.sso_places.specs.declared.types.To.{To}
use Rattle.sso_places.specs.declared.types.To.TheVariants as to
use Rattle.sso_places.specs.declared.types.WorldAsk.TheVariants.{Tokens, Info}
use Rattle.sso_places.specs.declared.types.WorldReply.{WorldReply}
use Rattle.sso_places.specs.declared.types.WorldReply.TheVariants.{Provider, Party}
use Rattle.web_requests.specs.declared.sent.Sent.{Sent}

-- the reply of a role in HTTP; none if it is not a reply of this role
unfoldable pub printed : Configuration → To → WorldReply → Option HttpReply
printed c to.Provider (Provider reply) = Some (op_http c reply)
printed c (to.Party n) (Party reply) = Some (rp_http c n reply)
printed c role reply = None

-- its status and its body
abbrev pub answer_in : HttpReply → Answered
answer_in reply = record { status = reply.status; body = reply.body }

-- an answer to the token request or the UserInfo request in a reply of this party, under the number of that request
abbrev pub handed : ℕ → To → WorldReply → Answered → Option Sent
handed from (to.Party n) (Party (rp.Exchange pending message)) answer =
    Some (record { from = from; to = to.Party n; ask = Tokens pending answer })
handed from (to.Party n) (Party (rp.Fetch pending message)) answer =
    Some (record { from = from; to = to.Party n; ask = Info pending answer })
handed from role reply answer = None

-- the printed reply of another role, passed back to it
unfoldable pub handed_back : Configuration → ℕ → To → WorldReply → To → WorldReply → Option Sent
handed_back c from role reply other answer = option_and_then (λ told. handed from role reply (answer_in told)) (printed c other answer)
