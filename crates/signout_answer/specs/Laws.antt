-- What the replies of a legal history mean (RP-Initiated Logout 1.0, 2, 3 and 6).
use Rattle.std.specs.Prelude.{◌≡◌, ℕ, true, List, [], ◌∷◌, ◌++◌, reverse, Option, Some, Bool, false}
use Rattle.sso_base.specs.Words.{Word, Text}
use Rattle.sso_base.specs.declared.history.Entry.{Entry}
use Rattle.sso_base.specs.declared.message.Message.{Message}
use Rattle.client_registry.specs.Configuration.{Configuration}
use Rattle.op_exchange.specs.declared.ask.OpAsk.{OpAsk}
use Rattle.op_exchange.specs.declared.ask.OpAsk.TheVariants.{SignOut}
use Rattle.op_exchange.specs.declared.reply.OpReply.{OpReply}
use Rattle.op_exchange.specs.declared.reply.OpReply.TheVariants.{SignedOut}
use Rattle.op_answer.specs.Past.{OpPair}
use Rattle.op_answer.specs.Causes.{SignedOutCause}
use Rattle.core_stack.specs.Stacks.{provider_pair}
use Rattle.end_request.specs.Ending.{IsRegisteredReturn}
use Rattle.signout_answer.specs.declared.asks.EndAsk.TheVariants.{Start, Confirm}
use Rattle.signout_answer.specs.declared.asks.EndReply.TheVariants as reply
use Rattle.signout_answer.specs.declared.asks.EndSetup.{EndSetup}
use Rattle.signout_answer.specs.declared.parts.OwnReply.{OwnReply}
use Rattle.signout_answer.specs.declared.parts.OwnReply.TheVariants as own
use Rattle.signout_answer.specs.Around.{Outer}

-- a reply without the core inside that answers no question and makes none
abbrev pub is_refusal : OwnReply → Bool
is_refusal (own.Wrong why) = true
is_refusal own.Stale = true
is_refusal own.Full = true
is_refusal told = false

module _ {A R : Type 0} where
  -- a request with this form and this session was answered by the question with this word
  pub record WasAsked (past : List (Outer A R)) (w : Word) (session : Option Word) (form : List ℕ) : Type 0 where
    pub later : List (Outer A R)
    pub request : Outer A R
    pub earlier : List (Outer A R)
    pub parts : past ≡ later ++ request ∷ earlier
    pub asked : request.entry.ask ≡ Start form session
    pub told : request.reply ≡ reply.Sure w

  -- the pair is a `yes` to a question: it presents the word of the question, and the session that was presented with the request. If the
  -- browser goes somewhere, it is to a URI that is registered for the client of the request's hint, with the request's state.
  pub record SaidYes (c : EndSetup) (plain : A → Option OpAsk) (past : List (Outer A R)) (p : Outer A R) (back : Option Text) : Type 0 where
    pub word : Word
    pub session : Option Word
    pub inner : A
    pub form : List ℕ
    pub asked : p.entry.ask ≡ Confirm (Some word) true session inner
    pub signs_out : plain inner ≡ Some (SignOut session)
    pub request : WasAsked past word session form
    pub registered : (to : Text) → back ≡ Some to → IsRegisteredReturn c.registry c.returns form to

  -- a request with this form was answered by a question, and its hint and its URI allow this location
  pub record WasAllowed (c : EndSetup) (past : List (Outer A R)) (to : Text) : Type 0 where
    pub word : Word
    pub session : Option Word
    pub form : List ℕ
    pub request : WasAsked past word session form
    pub registered : IsRegisteredReturn c.registry c.returns form to

-- the entry of a sign-out
abbrev pub sign_out_entry : {A R : Type 0} → Outer A R → Option Word → Entry OpAsk
sign_out_entry p session = record { at = p.entry.at; fresh = p.entry.fresh; ask = SignOut session }

-- the provider signed the session out: the step added the sign-out to the provider's history, with the messages of the reply, which are
-- those of the provider's own sign-out
pub record IsSignOut
    {A R : Type 0} (given : R → Option OpReply) (notices : R → Option (List Message)) (c : Configuration) (before after : List OpPair)
    (p : Outer A R) (r : R) (session : Option Word) : Type 0 where
  pub messages : List Message
  pub replied : given r ≡ Some (SignedOut messages)
  pub sent : notices r ≡ Some messages
  pub cause : SignedOutCause c (reverse before) (sign_out_entry p session) (SignOut session) messages
  pub added : after ≡ before ++ provider_pair p.entry.at p.entry.fresh (SignOut session) (SignedOut messages) ∷ []
