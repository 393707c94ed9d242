-- The theorems of the program: for `replay CONFIG TRACE` if the trace was played, and for `storm NUMBER COUNT`. A shelf's
-- contents and a sink's output are options, since those of real files and of a real output are unknown.
use Rattle.std.specs.Prelude.{◌≡◌, ℕ, List, Option, Some, Ok}
use Rattle.sso_base.specs.Words.{Text}
use Rattle.sso_base.specs.Outside.{Content, Takes}
use Rattle.client_registry.specs.Configuration.{Configuration}
use Rattle.client_registry.specs.Reading.{registry_read}
use Rattle.command_line.specs.declared.command.Command.TheVariants.{Replay, Storm}
use Rattle.command_line.specs.Commands.{command_of}
use Rattle.trace_lines.specs.Trace.{Told, trace_told}
use Rattle.storm_texts.specs.Config.{config_text}
use Rattle.storm_texts.specs.Trace.{trace_text}
use Rattle.oidc_replay.specs.End.{end_of}
use Rattle.oidc_replay.specs.Storm.{storm_text}
use Rattle.oidc_replay.specs.Text.{text_of}
use Rattle.oidc_replay.specs.Theorem.{PlaysWell}
use Rattle.sso.specs.Answer.{end_status}
use Rattle.sso.specs.Outcomes.{IsContent}

-- The configuration and the trace are accepted, and the text of the play was written. The status reports how the play ended: at
-- the last line with no failed premise, at the last line with one, or at a full history. The sign-on theorem is true for this
-- play, and its honest logins succeed.
pub record Replays (contents : Option (List Content)) (words : List Text) (status : ℕ) (old new : Option (List ℕ)) : Type 0 where
  pub config_at : Text
  pub trace_at : Text
  pub words_are : command_of words ≡ Some (Replay config_at trace_at)
  pub config : List ℕ
  pub config_there : IsContent contents config_at config
  pub configuration : Configuration
  pub read : registry_read config ≡ Ok configuration
  pub trace : List ℕ
  pub trace_there : IsContent contents trace_at trace
  pub told : Told
  pub accepted : trace_told configuration trace ≡ Ok told
  pub ends : end_status (end_of configuration told) ≡ status
  pub wrote : Takes old new (text_of configuration told)
  pub well : PlaysWell configuration told

-- The same for a storm of two numbers, which determine its configuration and its trace. A summary of the play was written.
pub record Storms (words : List Text) (status : ℕ) (old new : Option (List ℕ)) : Type 0 where
  pub number : ℕ
  pub count : ℕ
  pub words_are : command_of words ≡ Some (Storm number count)
  pub configuration : Configuration
  pub read : registry_read config_text ≡ Ok configuration
  pub told : Told
  pub accepted : trace_told configuration (trace_text number count) ≡ Ok told
  pub ends : end_status (end_of configuration told) ≡ status
  pub wrote : Takes old new (storm_text configuration told number count)
  pub well : PlaysWell configuration told
