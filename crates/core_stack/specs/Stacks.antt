-- A core that stands around the provider: which of the provider's replies it may give by itself, and what one of its steps adds to
-- the provider's history.
use Rattle.std.specs.Prelude.{◌≡◌, ◌⊎◌, ◌++◌, ◌∷◌, [], ℕ, List, Bool, true, false, Option, Some, None}
use Rattle.sso_base.specs.Words.{Word}
use Rattle.sso_base.specs.declared.message.Message.{Message}
use Rattle.op_exchange.specs.declared.ask.OpAsk.{OpAsk}
use Rattle.op_exchange.specs.declared.reply.OpReply.{OpReply}
use Rattle.op_exchange.specs.declared.reply.OpReply.TheVariants.{LoginPage, ConsentPage, Answered, Refused, Tokens, TokenRefused, SignedOut}
use Rattle.op_answer.specs.Past.{OpPair}

-- a core that stands around the provider gives no other reply of the provider by itself
abbrev pub may_be_own : OpReply → Bool
may_be_own (Refused refusal session) = true
may_be_own (TokenRefused code) = true
may_be_own reply = false

-- replies that begin or end turns, make codes, or redeem them
abbrev pub is_shown : OpReply → Bool
is_shown (LoginPage turn browser again) = true
is_shown (ConsentPage turn browser session client scopes) = true
is_shown (Answered answer session) = true
is_shown (Refused refusal session) = true
is_shown (Tokens access id) = true
is_shown reply = false

-- a pair of the provider
abbrev pub provider_pair : ℕ → List Word → OpAsk → OpReply → OpPair
provider_pair at fresh asked told = record { entry = record { at = at; fresh = fresh; ask = asked }; reply = told }

-- the pair of the provider's request and of the reply that the provider gave to it was added
pub record AddsPair (at : ℕ) (fresh : List Word) (asked : Option OpAsk) (told : OpReply) (before after : List OpPair) : Type 0 where
  pub request : OpAsk
  pub asks : asked ≡ Some request
  pub added : after ≡ before ++ provider_pair at fresh request told ∷ []

-- a pair was added that begins and ends no turn, and makes and redeems no code
pub record AddsHidden (at : ℕ) (fresh : List Word) (before after : List OpPair) : Type 0 where
  pub pair : OpPair
  pub added : after ≡ before ++ pair ∷ []
  pub moment : pair.entry.at ≡ at
  pub words : pair.entry.fresh ≡ fresh
  pub hidden : is_shown pair.reply ≡ false

-- by the provider's request in the core's request, and by the reply that the provider gave, if it gave one
abbrev pub AddsGiven : ℕ → List Word → Option OpAsk → Option OpReply → List OpPair → List OpPair → Type 0
AddsGiven at fresh asked (Some told) before after = AddsPair at fresh asked told before after
AddsGiven at fresh asked None before after = (after ≡ before) ⊎ AddsHidden at fresh before after

-- nothing was added, or one pair with this moment and these words
abbrev pub AddsAtMostOne : ℕ → List Word → List OpPair → List OpPair → Type 0
AddsAtMostOne at fresh before after =
    (after ≡ before) ⊎ ((q : OpPair) × (after ≡ before ++ q ∷ []) × (q.entry.at ≡ at) × (q.entry.fresh ≡ fresh))

-- ---- sign-outs

abbrev pub is_sign_out : OpReply → Bool
is_sign_out (SignedOut messages) = true
is_sign_out reply = false

-- by the messages of a core's reply: with messages, the step added a sign-out with these to the provider's history; without, it added none
abbrev pub AreNotices : Option (List Message) → List OpPair → List OpPair → Type 0
AreNotices (Some messages) before after = (q : OpPair) × (after ≡ before ++ q ∷ []) × (q.reply ≡ SignedOut messages)
AreNotices None before after = (q : OpPair) → after ≡ before ++ q ∷ [] → is_sign_out q.reply ≡ false
