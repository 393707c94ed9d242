-- What a core says of the relying party inside, computed on small cases.
use Rattle.std.proofs.Common.{◌≡◌, ◌<◌, Some, None, refl, arith}
use Rattle.sso_base.specs.Words.{Word}
use Rattle.sso_base.specs.declared.message.Message.{Message}
use Rattle.rp_exchange.specs.declared.ask.RpAsk.TheVariants as ask
use Rattle.rp_exchange.specs.declared.reply.RpReply.TheVariants as reply
use Rattle.rp_answer.specs.Past.{RpPair}
use Rattle.core_stack.specs.Relied.{party_pair, exchange_named, sending_in}
use Rattle.core_stack.specs.Rounds.{rounds_of}

sent-a_token_request : (pending : Word) (message : Message)
    → sending_in (reply.Exchange pending message) ≡ Some (record { pending = pending; message = message })
sent-a_token_request pending message = refl

sent-nothing : sending_in reply.NotHere ≡ None
sent-nothing = refl

exchange-of_a_user_info_request : (pending : Word) (message : Message) → exchange_named (reply.Fetch pending message) ≡ Some pending
exchange-of_a_user_info_request pending message = refl

exchange-of_no_request : exchange_named reply.Nobody ≡ None
exchange-of_no_request = refl

rounds-fall : (pending : Word) (message : Message)
    → (rounds_of (reply.Fetch pending message) < rounds_of (reply.Exchange pending message))
    × (rounds_of reply.NotHere < rounds_of (reply.Fetch pending message))
rounds-fall pending message = (omega arith, omega arith)

-- the pair of the party has the moment and the words of the core's
pair-of_another_request : (p : RpPair) → (party_pair p ask.NotHere reply.NotHere).entry.at ≡ p.entry.at
pair-of_another_request p = refl
