-- The outcome for words that are not a command, for the contents that were fetched for `replay` and `token`, and for the
-- numbers of a `storm`: a status and a text.
use Rattle.std.specs.Prelude.{ℕ, ◌-◌, Bool, ◌&&◌, nat_lt, nat_le, List, [], ◌∷◌, ◌++◌, length, take, drop, codes, Result, Ok, Err, if◌then◌else◌}
use Rattle.std.specs.Fmt.{decimal}
use Rattle.std.specs.Str.{bytes_eq}
use Rattle.sso_base.specs.Words.{Text}
use Rattle.jws_compact.specs.declared.no.JwsNo.{JwsNo}
use Rattle.jws_compact.specs.declared.unsealing.Unsealed.{Unsealed}
use Rattle.jws_compact.specs.Jws.{verdict}
use Rattle.jws_compact.specs.Names.{jws_name}
use Rattle.configuration_rows.specs.declared.no.RegNo.{RegNo}
use Rattle.configuration_rows.specs.declared.no.RegNo.TheVariants as reg
use Rattle.client_registry.specs.Configuration.{Configuration}
use Rattle.client_registry.specs.Reading.{registry_read}
use Rattle.trace_lines.specs.declared.no.TraceNo.{TraceNo}
use Rattle.trace_lines.specs.declared.no.TraceNo.TheVariants as no
use Rattle.trace_lines.specs.Trace.{Told, trace_told}
use Rattle.storm_texts.specs.Config.{config_text}
use Rattle.storm_texts.specs.Trace.{trace_text}
use Rattle.oidc_replay.specs.declared.replaying.ReplayEnd.{ReplayEnd}
use Rattle.oidc_replay.specs.declared.replaying.ReplayEnd.TheVariants as end
use Rattle.oidc_replay.specs.End.{end_of}
use Rattle.oidc_replay.specs.Storm.{storm_text}
use Rattle.oidc_replay.specs.Text.{text_of}

pub record Answer : Type 0 where
  pub status : ℕ
  pub text : Text

unfoldable pub usage_text : Text
usage_text =
    codes "usage: sso replay CONFIG TRACE, op CONFIG, rp CONFIG NAME [DISCOVERY], op-plus CONFIG, rp-plus CONFIG NAME, "
    ++ codes "storm NUMBER COUNT, token SECRETFILE TOKENFILE\n"

unfoldable pub shelf_text : Text
shelf_text = codes "shelf\n"

-- the name of a refusal of a configuration, and its values
unfoldable pub registry_name : RegNo → Text
registry_name reg.NoMemory = []
registry_name reg.TooLong = codes "TooLong"
registry_name reg.NotToml = codes "NotToml"
registry_name reg.Version = codes "Version"
registry_name (reg.Missing path) = codes "Missing " ++ path
registry_name (reg.WrongKind path) = codes "WrongKind " ++ path
registry_name (reg.BadUrl path) = codes "BadUrl " ++ path
registry_name (reg.Twice name) = codes "Twice " ++ name
registry_name (reg.ShortSecret client) = codes "ShortSecret " ++ client
registry_name (reg.TooMany kind) = codes "TooMany " ++ kind
registry_name (reg.MixedHosts client) = codes "MixedHosts " ++ client
registry_name (reg.UnknownClient party) = codes "UnknownClient " ++ party
registry_name (reg.SubjectClash client user other) = codes "SubjectClash " ++ client ++ 32 ∷ user ++ 32 ∷ other

-- the text for a rejected configuration, given the reason's name
unfoldable pub configuration_text : Text → Text
configuration_text name = codes "configuration " ++ name ++ 10 ∷ []

-- the outcome for a rejected configuration, given the reason's name
abbrev pub configuration_refusal : Text → Answer
configuration_refusal name = record { status = 3; text = configuration_text name }

-- the name of a refusal of a trace, and the number of its first bad line
unfoldable pub trace_name : TraceNo → Text
trace_name no.NoMemory = []
trace_name no.Size = codes "Size"
trace_name no.Header = codes "Header"
trace_name (no.LineTooLong line) = codes "LineTooLong " ++ decimal line
trace_name (no.Word line) = codes "Word " ++ decimal line
trace_name (no.Number line) = codes "Number " ++ decimal line
trace_name (no.Backwards line) = codes "Backwards " ++ decimal line
trace_name (no.NoSuchReply line) = codes "NoSuchReply " ++ decimal line
trace_name (no.NoSuchParty line) = codes "NoSuchParty " ++ decimal line

-- the text for a rejected trace
unfoldable pub refused_text : TraceNo → Text
refused_text why = codes "trace " ++ trace_name why ++ 10 ∷ []

-- the status of a replay, by the end of its play
abbrev pub end_status : ReplayEnd → ℕ
end_status end.Met = 0
end_status (end.Broken broken) = 7
end_status (end.Journal place) = 8

-- the outcome for a trace that is played over a configuration
abbrev pub trace_answer : Configuration → Result Told TraceNo → Answer
trace_answer c (Ok told) = record { status = end_status (end_of c told); text = text_of c told }
trace_answer c (Err why) = record { status = 4; text = refused_text why }

abbrev pub replay_answer : Result Configuration RegNo → List ℕ → Answer
replay_answer (Ok c) trace = trace_answer c (trace_told c trace)
replay_answer (Err why) trace = configuration_refusal (registry_name why)

-- the outcome for a configuration and a trace
unfoldable pub answer_to : List ℕ → List ℕ → Answer
answer_to config trace = replay_answer (registry_read config) trace

-- the outcome of a storm of two numbers, whose trace is played over a configuration
abbrev pub storm_told : Configuration → ℕ → ℕ → Result Told TraceNo → Answer
storm_told c number count (Ok told) = record { status = end_status (end_of c told); text = storm_text c told number count }
storm_told c number count (Err why) = record { status = 4; text = refused_text why }

abbrev pub storm_over : Result Configuration RegNo → ℕ → ℕ → Answer
storm_over (Ok c) number count = storm_told c number count (trace_told c (trace_text number count))
storm_over (Err why) number count = configuration_refusal (registry_name why)

-- the outcome of a storm of two numbers
unfoldable pub storm_answer : ℕ → ℕ → Answer
storm_answer number count = storm_over (registry_read config_text) number count

-- bytes without their last, if that is a line feed
abbrev pub without_feed : List ℕ → List ℕ
without_feed bytes =
    if bytes_eq (drop (length bytes - 1) bytes) (codes "\n") then take (length bytes - 1) bytes else bytes

-- a secret has 1 to 128 bytes
abbrev pub is_secret : List ℕ → Bool
is_secret bytes = nat_lt 0 (length bytes) && nat_le (length bytes) 128

-- the text for a rejected token, given the refusal's name
unfoldable pub token_text : Text → Text
token_text name = codes "token " ++ name ++ 10 ∷ []

-- the outcome for a token with this payload
abbrev pub payload_answer : List ℕ → Answer
payload_answer payload = record { status = 0; text = payload ++ 10 ∷ [] }

-- the outcome for a rejected token
abbrev pub token_refusal : Text → Answer
token_refusal name = record { status = 10; text = token_text name }

-- the outcome for a token, by the result of its verification under the secret
abbrev pub verdict_answer : Result Unsealed JwsNo → Answer
verdict_answer (Ok unsealed) = payload_answer unsealed.payload
verdict_answer (Err why) = token_refusal (jws_name why)

-- the outcome for the contents of a secret's file and a token's file
unfoldable pub token_answer : List ℕ → List ℕ → Answer
token_answer secret token =
    if is_secret (without_feed secret)
    then verdict_answer (verdict (without_feed secret) (without_feed token))
    else token_refusal (codes "Secret")
