-- The faults of a line, by the registry and the lines before it, given the newest first.
use Rattle.std.specs.Prelude.{ℕ, ◌==◌, Bool, true, List, [], ◌∷◌, length, nat_lt, Option, Some, None, if◌then◌else◌}
use Rattle.sso_base.specs.Words.{Text}
use Rattle.client_registry.specs.Configuration.{Configuration}
use Rattle.trace_lines.specs.declared.no.Fault.{Fault}
use Rattle.trace_lines.specs.declared.no.Fault.TheVariants.{LineTooLong, Word, Number, Backwards, NoSuchReply, NoSuchParty}
use Rattle.trace_lines.specs.declared.line.Line.{Line}
use Rattle.trace_lines.specs.declared.verb.Verb.{Verb}
use Rattle.trace_lines.specs.declared.verb.Field.{Field}
use Rattle.trace_lines.specs.declared.verb.Field.TheVariants.{Seconds, Browser, Sender, Place, Message, Party, Role, Choice, Subject, Free}
use Rattle.trace_lines.specs.Faults.{onto, fault_if, fault_at_none}
use Rattle.trace_lines.specs.Lines.{moment_after, places_after}
use Rattle.trace_lines.specs.LineWords.{words_in}
use Rattle.trace_lines.specs.Values.{moment_of, browser_of, sender_of, place_of, message_of, party_of, role_of, choice_of}
use Rattle.trace_lines.specs.Verbs.{verb_of, fields_of}

-- ---- single words

-- time never goes back
abbrev pub moment_fault : List Line → Option ℕ → Option Fault
moment_fault before None = Some Number
moment_fault before (Some seconds) = fault_if (nat_lt seconds (moment_after before)) Backwards

-- a place must have been taken before
abbrev pub place_fault : List Line → Option ℕ → Option Fault
place_fault before None = Some Number
place_fault before (Some place) = fault_if (nat_lt (places_after before) place) NoSuchReply

-- the fault of a word as this field, if it has one
abbrev pub field_fault : Configuration → List Line → Field → Text → Option Fault
field_fault c before Seconds word = moment_fault before (moment_of word)
field_fault c before Browser word = fault_at_none (browser_of word) Number
field_fault c before Sender word = fault_at_none (sender_of word) Number
field_fault c before Place word = place_fault before (place_of word)
field_fault c before Message word = fault_at_none (message_of word) Number
field_fault c before Party word = fault_at_none (party_of c word) NoSuchParty
field_fault c before Role word = fault_at_none (role_of c word) NoSuchParty
field_fault c before Choice word = fault_at_none (choice_of word) Word
field_fault c before Subject word = fault_if (nat_lt 255 (length word)) Word
field_fault c before Free word = None

-- ---- lines

-- the faults of words, each as its field
abbrev pub fields_faults : Configuration → List Line → List Field → List Text → List Fault
fields_faults c before (field ∷ fields) (word ∷ words) =
    onto (field_fault c before field word) (fields_faults c before fields words)
fields_faults c before fields words = []

-- the faults of the words after the first one; there must be as many as the table says
abbrev pub verb_faults : Configuration → List Line → Option Verb → List Text → List Fault
verb_faults c before None words = Word ∷ []
verb_faults c before (Some verb) words =
    if length words == length (fields_of verb) then fields_faults c before (fields_of verb) words else Word ∷ []

-- the faults of the words of a line
abbrev pub words_faults : Configuration → List Line → Option (List Text) → List Fault
words_faults c before None = Word ∷ []
words_faults c before (Some []) = Word ∷ []
words_faults c before (Some (verb ∷ words)) = verb_faults c before (verb_of verb) words

-- empty lines and comments are skipped
abbrev pub is_skipped : List ℕ → Bool
is_skipped [] = true
is_skipped (b ∷ bs) = b == 35

-- all faults of a line; a skipped line can also be too long
abbrev pub line_faults : Configuration → List Line → List ℕ → List Fault
line_faults c before line =
    onto (fault_if (nat_lt 65536 (length line)) LineTooLong) (if is_skipped line then [] else words_faults c before (words_in line))
