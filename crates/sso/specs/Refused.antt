-- Why a command is refused: the line that is printed, and the status.
use Rattle.std.specs.Prelude.{ℕ, [], ◌∷◌, ◌++◌, codes}
use Rattle.sso_base.specs.Words.{Text}
use Rattle.jws_compact.specs.Names.{jws_name}
use Rattle.sso.specs.declared.refusal.Refusal.{Refusal}
use Rattle.sso.specs.declared.refusal.Refusal.TheVariants as no
use Rattle.sso.specs.Answer.{Answer, registry_name, trace_name}
use Rattle.sso.specs.Asked.{metadata_name}

-- the line, without its line feed
abbrev pub refusal_line : Refusal → Text
refusal_line (no.Configuration why) = codes "configuration " ++ registry_name why
refusal_line no.NoParty = codes "configuration NoParty"
refusal_line (no.Trace why) = codes "trace " ++ trace_name why
refusal_line no.Secret = codes "token Secret"
refusal_line (no.Token why) = codes "token " ++ jws_name why
refusal_line no.MetadataSize = codes "discovery Size"
refusal_line (no.Metadata why) = codes "discovery " ++ metadata_name why

abbrev pub refusal_status : Refusal → ℕ
refusal_status (no.Configuration why) = 3
refusal_status no.NoParty = 3
refusal_status (no.Trace why) = 4
refusal_status no.Secret = 10
refusal_status (no.Token why) = 10
refusal_status no.MetadataSize = 10
refusal_status (no.Metadata why) = 10

-- the outcome of a refused command
abbrev pub refusal_answer : Refusal → Answer
refusal_answer why = record { status = refusal_status why; text = refusal_line why ++ 10 ∷ [] }
