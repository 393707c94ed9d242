-- The provider's answer to an entry, as a function of its past.
use Rattle.std.specs.Prelude.{if◌then◌else◌}
use Rattle.sso_base.specs.declared.history.Entry.{Entry}
use Rattle.client_registry.specs.Configuration.{Configuration}
use Rattle.auth_request.specs.declared.wish.PageNo.TheVariants as page
use Rattle.claim_set.specs.Reading.{claims_text}
use Rattle.discovery_doc.specs.Metadata.{metadata}
use Rattle.op_exchange.specs.declared.ask.OpAsk.{OpAsk}
use Rattle.op_exchange.specs.declared.ask.OpAsk.TheVariants as ask
use Rattle.op_exchange.specs.declared.reply.OpReply.{OpReply}
use Rattle.op_exchange.specs.declared.reply.OpReply.TheVariants.{ErrorPage, Metadata, Keys, NotHere}
use Rattle.op_answer.specs.Past.{OpPast}
use Rattle.op_exchange.specs.Asks.{is_prepared}
use Rattle.op_answer.specs.Turns.{live_turn}
use Rattle.op_answer.specs.Replies.{authorize, login, consent, token, info, sign_out}
use Rattle.op_answer.specs.Room.{unless_full}

-- the reply, if no table were full
abbrev pub op_reply : Configuration → OpPast → Entry OpAsk → OpAsk → OpReply
op_reply c past e (ask.Authorize verdict browser session) = authorize c past e verdict browser session
op_reply c past e (ask.Login turn signed browser session) = login c past e (live_turn past e.at turn) signed browser session
op_reply c past e (ask.Consent turn agree browser session) = consent c past e (live_turn past e.at turn) agree browser session
op_reply c past e (ask.Token grant) = token c past e grant
op_reply c past e (ask.Info bearer) = info c past e bearer
op_reply c past e (ask.SignOut session) = sign_out c past e session
op_reply c past e ask.Metadata = Metadata (claims_text (metadata c.provider))
op_reply c past e ask.Keys = Keys
op_reply c past e ask.Twice = ErrorPage page.Twice
op_reply c past e ask.NotHere = NotHere

-- the provider's answer; a value that no request produces gets `NotHere`
unfoldable pub op_answer : Configuration → OpPast → Entry OpAsk → OpReply
op_answer c past e = if is_prepared c e.ask then unless_full past e (op_reply c past e e.ask) else NotHere
