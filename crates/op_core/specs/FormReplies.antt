-- The provider's reply, from the turn of the form and its live session.
use Rattle.std.specs.Prelude.{Bool, Option, Some, None}
use Rattle.sso_base.specs.Words.{Word}
use Rattle.sso_base.specs.declared.history.Entry.{Entry}
use Rattle.client_registry.specs.Configuration.{Configuration}
use Rattle.auth_request.specs.declared.wish.PageNo.TheVariants as page
use Rattle.code_grant.specs.declared.rows.TurnRow.{TurnRow}
use Rattle.code_grant.specs.declared.rows.SessionRow.{SessionRow}
use Rattle.op_exchange.specs.declared.ask.OpAsk.{OpAsk}
use Rattle.op_exchange.specs.declared.ask.OpAsk.TheVariants.{Login, Consent}
use Rattle.op_exchange.specs.declared.reply.OpReply.{OpReply}
use Rattle.op_exchange.specs.declared.reply.OpReply.TheVariants.{ErrorPage}
use Rattle.op_answer.specs.Past.{OpPast}
use Rattle.op_answer.specs.Replies.{login, consent_in}
use Rattle.op_answer.specs.Answering.{op_reply}

-- the reply to a consent form of this turn, which has this live session
abbrev pub consent_for : Configuration → OpPast → Entry OpAsk → Option TurnRow → Option SessionRow → Bool → Option Word → Option Word → OpReply
consent_for c past e None own agree browser presented = ErrorPage page.Turn
consent_for c past e (Some turn) own agree browser presented = consent_in c past e turn own agree browser presented

-- the reply to a form of this turn, and to any other request
abbrev pub reply_for : Configuration → OpPast → Entry OpAsk → OpAsk → Option TurnRow → Option SessionRow → OpReply
reply_for c past e (Login word signed browser session) turn own = login c past e turn signed browser session
reply_for c past e (Consent word agree browser session) turn own = consent_for c past e turn own agree browser session
reply_for c past e ask turn own = op_reply c past e ask
