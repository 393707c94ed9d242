-- Parsing the bytes of a trace, or why they are rejected. Lists of lines that were read have the newest first.
use Rattle.std.specs.Prelude.{◌≡◌, ◌≤◌, ℕ, ◌+◌, ◌==◌, List, [], ◌∷◌, ◌++◌, length, reverse, nat_lt, Option, Some, None, Result, Ok, Err, if◌then◌else◌}
use Rattle.std.specs.List.{slice_split}
use Rattle.sso_base.specs.Words.{Text}
use Rattle.client_registry.specs.Configuration.{Configuration}
use Rattle.trace_lines.specs.declared.line.Line.{Line}
use Rattle.trace_lines.specs.declared.no.Fault.{Fault}
use Rattle.trace_lines.specs.declared.no.TraceNo.{TraceNo}
use Rattle.trace_lines.specs.declared.no.TraceNo.TheVariants.{Size, Header}
use Rattle.trace_lines.specs.Header.{seed_of}
use Rattle.trace_lines.specs.Faults.{least, IsLeast, refusal_of}
use Rattle.trace_lines.specs.declared.verb.Verb.{Verb}
use Rattle.trace_lines.specs.Guilt.{verb_faults, words_faults, line_faults}
use Rattle.trace_lines.specs.Said.{by_verb, words_said, line_said}

-- a whole trace: the seed of the random words, and its lines
pub record Told : Type 0 where
  pub seed : List ℕ
  pub lines : List Line

-- ---- lines after lines

-- a fault, or else the next result
abbrev pub unless_fault : {A : Type 0} → Option Fault → A → Result A Fault
unless_fault None x = Ok x
unless_fault (Some e) x = Err e

-- the parsed words after the first one, or the first fault
abbrev pub verb_read : Configuration → List Line → Option Verb → List Text → Result (Option Line) Fault
verb_read c before verb words = unless_fault (least (verb_faults c before verb words)) (by_verb c verb words)

-- the same for the words of a line
abbrev pub words_read : Configuration → List Line → Option (List Text) → Result (Option Line) Fault
words_read c before words = unless_fault (least (words_faults c before words)) (words_said c words)

-- the line, parsed after those before it, or its first fault
abbrev pub line_read : Configuration → List Line → List ℕ → Result (Option Line) Fault
line_read c before line = unless_fault (least (line_faults c before line)) (line_said c line)

-- one more line, if it is not skipped
abbrev pub added : Option Line → List Line → List Line
added None lines = lines
added (Some line) lines = line ∷ lines

-- the rejection for the line with this number, or else the next result
abbrev pub onward : {A B : Type 0} → ℕ → Result A Fault → (A → Result B TraceNo) → Result B TraceNo
onward number (Ok x) rest = rest x
onward number (Err e) rest = Err (refusal_of number e)

-- all lines, or the rejection for the first bad one; the next line has this number
abbrev pub lines_read : Configuration → ℕ → List Line → List (List ℕ) → Result (List Line) TraceNo
lines_read c number before [] = Ok before
lines_read c number before (line ∷ lines) =
    onward number (line_read c before line) (λ said. lines_read c (number + 1) (added said before) lines)

-- ---- whole traces

-- the parts between line feeds
abbrev pub lines_of : List ℕ → List (List ℕ)
lines_of bytes = slice_split (λ b. b == 10) bytes

-- a trace of these lines
abbrev pub told_by : List ℕ → Result (List Line) TraceNo → Result Told TraceNo
told_by seed (Ok lines) = Ok (record { seed = seed; lines = lines })
told_by seed (Err e) = Err e

-- a trace whose header has this seed, or none
abbrev pub headed : Configuration → Option (List ℕ) → List (List ℕ) → Result Told TraceNo
headed c None lines = Err Header
headed c (Some seed) lines = told_by seed (lines_read c 2 [] lines)

-- a trace of these lines, of which the first is the header
abbrev pub told_of : Configuration → List (List ℕ) → Result Told TraceNo
told_of c [] = Err Header
told_of c (header ∷ lines) = headed c (seed_of header) lines

-- the parsed trace for this registry, or why it is rejected
unfoldable pub trace_told : Configuration → List ℕ → Result Told TraceNo
trace_told c bytes = if nat_lt 4194304 (length bytes) then Err Size else told_of c (lines_of bytes)

-- ---- the same in elementary terms

-- the bytes are not too many, and begin with a header with this seed; these lines follow
pub record IsHeaded (bytes seed : List ℕ) (lines : List (List ℕ)) : Type 0 where
  pub short : length bytes ≤ 4194304
  pub header : List ℕ
  pub lines_are : lines_of bytes ≡ header ∷ lines
  pub seed_is : seed_of header ≡ Some seed

-- the bytes are not too many, and the first line is not a header
pub record HasNoHeader (bytes : List ℕ) : Type 0 where
  pub short : length bytes ≤ 4194304
  pub first : List ℕ
  pub lines : List (List ℕ)
  pub lines_are : lines_of bytes ≡ first ∷ lines
  pub no_seed : seed_of first ≡ None

-- Each of these lines has no fault after those before it, and they parse to these. Here the lines of bytes also have the newest
-- first.
abbrev pub AreAccepted : Configuration → List (List ℕ) → List Line → Type 0
AreAccepted c [] said = said ≡ []
AreAccepted c (line ∷ earlier) said =
    (before : List Line)
    × AreAccepted c earlier before
    × (line_faults c before line ≡ [])
    × (said ≡ added (line_said c line) before)

-- the bytes are a trace, and parse to this
pub record IsTrace (c : Configuration) (bytes : List ℕ) (told : Told) : Type 0 where
  pub lines : List (List ℕ)
  pub headed : IsHeaded bytes told.seed lines
  pub accepted : AreAccepted c (reverse lines) told.lines

-- The line with this number is the first bad one, and this is its first fault. All lines before it are accepted.
pub record IsFirstBad (c : Configuration) (bytes : List ℕ) (number : ℕ) (fault : Fault) : Type 0 where
  pub seed : List ℕ
  pub front : List (List ℕ)
  pub line : List ℕ
  pub rest : List (List ℕ)
  pub headed : IsHeaded bytes seed (front ++ line ∷ rest)
  pub before : List Line
  pub accepted : AreAccepted c (reverse front) before
  pub refused : IsLeast fault (line_faults c before line)
  pub number_is : number ≡ length front + 2
