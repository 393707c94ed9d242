-- One step of a role, and the invariants of the roles of a world.
use Rattle.std.specs.Prelude.{◌≡◌, ℕ, List, ◌∷◌, Some, slice_get, slice_set, ◌+◌, ◌<◌, ◌≤◌, Err, OnOk, Result}
use Rattle.sso_base.specs.Words.{Word}
use Rattle.sso_base.specs.Legal.{last_moment}
use Rattle.sso_base.specs.declared.step.CoreNo.{CoreNo}
use Rattle.sso_base.specs.declared.step.CoreNo.TheVariants.{JournalFull}
use Rattle.sso_base.specs.Journal.{history_weight, most_of, ReportsFull}
use Rattle.client_registry.specs.Configuration.{Configuration}
use Rattle.op_exchange.specs.Weight.{ask_weight as op_weight}
use Rattle.op_exchange.specs.declared.ask.OpAsk.{OpAsk}
use Rattle.op_exchange.specs.declared.reply.OpReply.{OpReply}
use Rattle.op_answer.specs.Answering.{op_answer}
use Rattle.op_answer.specs.Legal.{IsLegalOp}
use Rattle.op_core.specs.Providing.{Providing, past_of as op_past_of}
use Rattle.rp_exchange.specs.declared.ask.RpAsk.{RpAsk}
use Rattle.rp_exchange.specs.declared.reply.RpReply.{RpReply}
use Rattle.rp_exchange.specs.Weight.{ask_weight as rp_weight}
use Rattle.rp_answer.specs.Answering.{rp_answer}
use Rattle.rp_answer.specs.Legal.{IsLegalRp}
use Rattle.rp_core.specs.Relying.{Relying, past_of as rp_past_of}
use Rattle.running_world.specs.Stepping.{later}

-- the provider's history is legal, and this is the moment of its last entry
pub record IsLegalAt (p : Providing) (last : ℕ) : Type 0 where
  pub last_is : last ≡ last_moment (op_past_of p)
  pub legal : IsLegalOp p.registry (op_past_of p)

-- the history gets one more pair, with the provider's answer
pub record OpSteps (before after : Providing) (at : ℕ) (fresh : List Word) (asked : OpAsk) (moment : ℕ) (answer : OpReply) : Type 0 where
  pub registry : after.registry ≡ before.registry
  pub moment_is : moment ≡ later (last_moment (op_past_of before)) at
  pub past : op_past_of after ≡ (record { entry = record { at = moment; fresh = fresh; ask = asked }; reply = answer }) ∷ op_past_of before
  pub answer_is : answer ≡ op_answer before.registry (op_past_of before) (record { at = moment; fresh = fresh; ask = asked })
  pub legal : IsLegalOp after.registry (op_past_of after)

-- the same for a party
pub record RpSteps (before after : Relying) (at : ℕ) (fresh : List Word) (asked : RpAsk) (moment : ℕ) (answer : RpReply) : Type 0 where
  pub setup : after.setup ≡ before.setup
  pub moment_is : moment ≡ later (last_moment (rp_past_of before)) at
  pub past : rp_past_of after ≡ (record { entry = record { at = moment; fresh = fresh; ask = asked }; reply = answer }) ∷ rp_past_of before
  pub answer_is : answer ≡ rp_answer before.setup (rp_past_of before) (record { at = moment; fresh = fresh; ask = asked })
  pub legal : IsLegalRp after.setup (rp_past_of after)

-- the party with this number took the step, and the others are unchanged
pub record RpStepsAt (before after : List Relying) (n at : ℕ) (fresh : List Word) (asked : RpAsk) (moment : ℕ) (answer : RpReply) : Type 0 where
  pub old : Relying
  pub new : Relying
  pub found : slice_get before n ≡ Some old
  pub set : after ≡ slice_set before n new
  pub steps : RpSteps old new at fresh asked moment answer

-- after a step the history of the provider had room for the request; the configuration has its limit
abbrev pub ProviderHasRoom : {A : Type 0} → Result A CoreNo → Configuration → Providing → OpAsk → Type 0
ProviderHasRoom result c provider asked =
    OnOk result (history_weight op_weight provider.history + op_weight asked ≤ most_of c.lasting)

-- a step that is refused because the history is full reports its weight, and there was no room for the request
abbrev pub ProviderReportsFull : {A : Type 0} → Result A CoreNo → Configuration → Providing → OpAsk → Type 0
ProviderReportsFull result c provider asked =
    ReportsFull (most_of c.lasting) result (history_weight op_weight provider.history) (op_weight asked)

-- after a step the history of the party had room for the request
abbrev pub PartyHasRoom : {A : Type 0} → Result A CoreNo → List Relying → ℕ → RpAsk → Type 0
PartyHasRoom result roles n asked =
    (role : Relying) → slice_get roles n ≡ Some role
    → OnOk result (history_weight rp_weight role.history + rp_weight asked ≤ most_of role.setup.configuration.lasting)

-- the same for the party with this number
abbrev pub PartyReportsFull : {A : Type 0} → Result A CoreNo → List Relying → ℕ → RpAsk → Type 0
PartyReportsFull result roles n asked =
    (role : Relying) (w : ℕ) → slice_get roles n ≡ Some role → result ≡ Err (JournalFull w)
    → (w ≡ history_weight rp_weight role.history) × (most_of role.setup.configuration.lasting < w + rp_weight asked)
