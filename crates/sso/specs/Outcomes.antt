-- The possible outcomes of a command, and how an outcome is written. A shelf's contents and a sink's output are options, since
-- those of real files and of a real output are unknown.
use Rattle.std.specs.Prelude.{◌≡◌, ◌⊎◌, ℕ, ◌≤◌, List, length, Option, Some, None, Result, Ok, Err}
use Rattle.sso_base.specs.Words.{Text}
use Rattle.sso_base.specs.Faults.{Rose}
use Rattle.sso_base.specs.Outside.{Content, content_of, Fetches, Takes, TakesFront}
use Rattle.client_registry.specs.Configuration.{Configuration}
use Rattle.client_registry.specs.Reading.{registry_read}
use Rattle.rp_answer.specs.Setup.{PartySetup}
use Rattle.signout_answer.specs.declared.asks.EndSetup.{EndSetup}
use Rattle.command_line.specs.declared.command.Command.{Command}
use Rattle.command_line.specs.declared.command.Command.TheVariants.{Replay, Op, Rp, OpPlus, RpPlus, Storm, Token}
use Rattle.server_desk.specs.declared.desk.Desk.{Desk}
use Rattle.serving.specs.declared.summary.Summary.{Summary}
use Rattle.serving.specs.Summaries.{Telling}
use Rattle.sso_serve.specs.Servers.{ServesOp, ServesRp, ServesOpPlus, ServesRpPlus}
use Rattle.trace_lines.specs.Trace.{Told, trace_told}
use Rattle.storm_texts.specs.Config.{config_text}
use Rattle.storm_texts.specs.Trace.{trace_text}
use Rattle.oidc_replay.specs.Theorem.{PlaysWell}
use Rattle.sso.specs.Answer.{Answer, usage_text, shelf_text, answer_to, storm_answer, token_answer}
use Rattle.sso.specs.Asked.{op_asked, op_plus_asked, rp_asked, server_answer}

-- this is the content with this name, if the shelf's contents are known
abbrev pub IsContent : Option (List Content) → Text → List ℕ → Type 0
IsContent None name content = Unit {0}
IsContent (Some contents) name content = content_of contents name ≡ Some content

-- the same for a name that may be absent; there is a content if and only if there is a name
abbrev pub IsContentIf : Option (List Content) → Option Text → Option (List ℕ) → Type 0
IsContentIf contents (Some name) (Some content) = IsContent contents name content
IsContentIf contents None None = Unit {0}
IsContentIf contents name content = ⊥

-- these bytes are fetched under this name: at most `most` bytes
abbrev pub IsFetched : Option (List Content) → Text → ℕ → List ℕ → Type 0
IsFetched contents name most bytes = Fetches contents name most bytes × (length bytes ≤ most)

-- the same for a name that may be absent
abbrev pub IsFetchedIf : Option (List Content) → Option Text → ℕ → Option (List ℕ) → Type 0
IsFetchedIf contents (Some name) most (Some bytes) = IsFetched contents name most bytes
IsFetchedIf contents None most None = Unit {0}
IsFetchedIf contents name most bytes = ⊥

unfoldable pub usage_answer : Answer
usage_answer = record { status = 2; text = usage_text }

unfoldable pub shelf_answer : Answer
shelf_answer = record { status = 5; text = shelf_text }

-- ---- `replay`, `storm` and `token`

-- the sign-on theorem for the play of these bytes over a registry, if they are an accepted trace
abbrev pub PlaysOver : Configuration → List ℕ → Type 0
PlaysOver c trace = (told : Told) → trace_told c trace ≡ Ok told → PlaysWell c told

-- the same for the bytes of a configuration, if they are accepted
unfoldable pub Plays : List ℕ → List ℕ → Type 0
Plays config trace = (c : Configuration) → registry_read config ≡ Ok c → PlaysOver c trace

-- the shelf failed during this call
abbrev pub FailsAtShelf : ℕ → ℕ → Answer → Type 0
FailsAtShelf before after answer = (answer ≡ shelf_answer) × Rose before after

-- The outcome is the one for a configuration and a trace with these names.
pub record AnswersReplay (contents : Option (List Content)) (config_at trace_at : Text) (answer : Answer) : Type 0 where
  pub config : List ℕ
  pub trace : List ℕ
  pub config_there : IsContent contents config_at config
  pub trace_there : IsContent contents trace_at trace
  pub answers : answer ≡ answer_to config trace
  pub well : Plays config trace

-- the possible outcomes of `replay`: a shelf failure is reported only if there was one
abbrev pub MayReplay : Option (List Content) → ℕ → ℕ → Text → Text → Answer → Type 0
MayReplay contents before after config_at trace_at answer =
    FailsAtShelf before after answer ⊎ AnswersReplay contents config_at trace_at answer

-- The outcome is the one for a storm of these numbers. It is the only one of `storm`, which needs no shelf.
pub record AnswersStorm (number count : ℕ) (answer : Answer) : Type 0 where
  pub answers : answer ≡ storm_answer number count
  pub well : Plays config_text (trace_text number count)

-- The outcome is the one for a secret and a token with these names.
pub record AnswersToken (contents : Option (List Content)) (secret_at token_at : Text) (answer : Answer) : Type 0 where
  pub secret : List ℕ
  pub token : List ℕ
  pub secret_there : IsContent contents secret_at secret
  pub token_there : IsContent contents token_at token
  pub answers : answer ≡ token_answer secret token

-- the possible outcomes of `token`
abbrev pub MayOpen : Option (List Content) → ℕ → ℕ → Text → Text → Answer → Type 0
MayOpen contents before after secret_at token_at answer =
    FailsAtShelf before after answer ⊎ AnswersToken contents secret_at token_at answer

-- ---- servers

-- the possible outcomes of serving: if it is refused, the desks are unchanged; otherwise they served
abbrev pub ServedBy : {X Core A R : Type 0} → Type 0 → (X → Summary Core A R → Type 0) → Result X Answer → Answer → Type 0
ServedBy {X} {Core} {A} {R} Unchanged Serves (Err refusal) answer = (answer ≡ refusal) × Unchanged
ServedBy {X} {Core} {A} {R} Unchanged Serves (Ok x) answer =
    (s : Summary Core A R) × Serves x s × (answer ≡ server_answer s.fault s.served s.entries)

-- The outcome is the one for a configuration with this name.
pub record AnswersServer
    {X Core A R : Type 0} (Unchanged : Type 0) (Serves : X → Summary Core A R → Type 0) (asked : List ℕ → Result X Answer)
    (contents : Option (List Content)) (config_at : Text) (answer : Answer) : Type 0 where
  pub config : List ℕ
  pub config_there : IsContent contents config_at config
  pub served : ServedBy Unchanged Serves (asked config) answer

-- the possible outcomes of a server that needs a configuration alone
abbrev pub MayServe : {X Core A R : Type 0} → Type 0 → (X → Summary Core A R → Type 0) → (List ℕ → Result X Answer)
    → Option (List Content) → ℕ → ℕ → Text → Answer → Type 0
MayServe Unchanged Serves asked contents before after config_at answer =
    (FailsAtShelf before after answer × Unchanged) ⊎ AnswersServer Unchanged Serves asked contents config_at answer

module _ {D L C W S K : Type 0} (t : Telling D L C W S K) (olds news : List (Desk D L C W)) where
  abbrev pub ServedOp : Result Configuration Answer → Answer → Type 0
  ServedOp asked answer = ServedBy (news ≡ olds) (ServesOp t olds news) asked answer

  abbrev pub ServedRp : Result PartySetup Answer → Answer → Type 0
  ServedRp asked answer = ServedBy (news ≡ olds) (ServesRp t olds news) asked answer

  abbrev pub ServedOpPlus : Result EndSetup Answer → Answer → Type 0
  ServedOpPlus asked answer = ServedBy (news ≡ olds) (ServesOpPlus t olds news) asked answer

  abbrev pub ServedRpPlus : Result PartySetup Answer → Answer → Type 0
  ServedRpPlus asked answer = ServedBy (news ≡ olds) (ServesRpPlus t olds news) asked answer

  -- the possible outcomes of `op`, and of `op-plus`
  abbrev pub MayServeOp : Option (List Content) → ℕ → ℕ → Text → Answer → Type 0
  MayServeOp contents before after config_at answer =
      MayServe (news ≡ olds) (ServesOp t olds news) op_asked contents before after config_at answer

  abbrev pub MayServeOpPlus : Option (List Content) → ℕ → ℕ → Text → Answer → Type 0
  MayServeOpPlus contents before after config_at answer =
      MayServe (news ≡ olds) (ServesOpPlus t olds news) op_plus_asked contents before after config_at answer

  -- The outcome is the one for a configuration with this name, and for the metadata with this name, if one is given.
  pub record AnswersRp (contents : Option (List Content)) (config_at name : Text) (metadata_at : Option Text) (answer : Answer) : Type 0 where
    pub config : List ℕ
    pub metadata : Option (List ℕ)
    pub config_there : IsContent contents config_at config
    pub metadata_there : IsContentIf contents metadata_at metadata
    pub served : ServedRp (rp_asked config name metadata) answer

  -- the possible outcomes of `rp`
  abbrev pub MayServeRp : Option (List Content) → ℕ → ℕ → Text → Text → Option Text → Answer → Type 0
  MayServeRp contents before after config_at name metadata_at answer =
      (FailsAtShelf before after answer × (news ≡ olds)) ⊎ AnswersRp contents config_at name metadata_at answer

  -- the possible outcomes of `rp-plus`, whose party trusts the configuration's provider
  abbrev pub MayServeRpPlus : Option (List Content) → ℕ → ℕ → Text → Text → Answer → Type 0
  MayServeRpPlus contents before after config_at name answer =
      MayServe (news ≡ olds) (ServesRpPlus t olds news) (λ config. rp_asked config name None) contents before after config_at answer

  -- ---- any words

  -- the possible outcomes for the words of a command, or of none
  abbrev pub MayAnswer : Option (List Content) → ℕ → ℕ → Option Command → Answer → Type 0
  MayAnswer contents before after None answer = answer ≡ usage_answer
  MayAnswer contents before after (Some (Replay config trace)) answer = MayReplay contents before after config trace answer
  MayAnswer contents before after (Some (Storm number count)) answer = AnswersStorm number count answer
  MayAnswer contents before after (Some (Token secret token)) answer = MayOpen contents before after secret token answer
  MayAnswer contents before after (Some (Op config)) answer = MayServeOp contents before after config answer
  MayAnswer contents before after (Some (Rp config name metadata)) answer = MayServeRp contents before after config name metadata answer
  MayAnswer contents before after (Some (OpPlus config)) answer = MayServeOpPlus contents before after config answer
  MayAnswer contents before after (Some (RpPlus config name)) answer = MayServeRpPlus contents before after config name answer

-- how an outcome is written: either all of it, and the status is its own, or a prefix of it, and the sink failed
abbrev pub IsWritten : Option (List ℕ) → Option (List ℕ) → ℕ → ℕ → Answer → ℕ → Type 0
IsWritten old new before after answer status =
    ((status ≡ answer.status) × Takes old new answer.text)
    ⊎ ((status ≡ 6) × TakesFront old new answer.text × Rose before after)
