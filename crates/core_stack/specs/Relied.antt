-- What a core around a relying party says of the party inside.
use Rattle.std.proofs.Common.{◌≡◌, List, [], ◌∷◌, ◌++◌, Option, Some, None, option_map, refl}
use Rattle.sso_base.specs.Words.{Word}
use Rattle.sso_base.specs.declared.history.Pair.{Pair}
use Rattle.rp_exchange.specs.declared.ask.RpAsk.{RpAsk}
use Rattle.rp_exchange.specs.declared.reply.RpReply.{RpReply}
use Rattle.rp_exchange.specs.declared.reply.RpReply.TheVariants.{Exchange, Fetch}
use Rattle.rp_answer.specs.Past.{RpPair}
use Rattle.core_stack.specs.declared.sending.Sending.{Sending}

-- a request and a reply of the party, at the moment and with the words of this pair
abbrev pub party_pair : {A R : Type 0} → Pair A R → RpAsk → RpReply → RpPair
party_pair p a r = record { entry = record { at = p.entry.at; fresh = p.entry.fresh; ask = a }; reply = r }

-- the word of the exchange in which a reply requests something of the provider
abbrev pub exchange_named : RpReply → Option Word
exchange_named (Exchange pending message) = Some pending
exchange_named (Fetch pending message) = Some pending
exchange_named reply = None

-- the message that is sent after a reply of the party alone (OpenID Connect Core 1.0, 3.1.3.1 and 5.3.1)
abbrev pub sending_in : RpReply → Option Sending
sending_in (Exchange pending message) = Some (record { pending = pending; message = message })
sending_in (Fetch pending message) = Some (record { pending = pending; message = message })
sending_in reply = None

-- it is sent in the exchange of the reply
pub sends_as_named : (r : RpReply) → option_map (λ (s : Sending). s.pending) (sending_in r) ≡ exchange_named r
sends_as_named (Exchange pending message) = refl
sends_as_named (Fetch pending message) = refl
sends_as_named reply = refl

-- the history of the party alone gets its own pairs
pub one_more : (h : List RpPair) (p : RpPair) → ◌≡◌ {A = List RpPair} (h ++ p ∷ []) (h ++ party_pair p p.entry.ask p.reply ∷ [])
one_more h p = refl
