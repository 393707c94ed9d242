-- The moment and the places after some lines, given the newest first.
use Rattle.std.specs.Prelude.{ℕ, suc, Bool, true, false, List, [], ◌∷◌, if◌then◌else◌}
use Rattle.trace_lines.specs.declared.line.Line.{Line}
use Rattle.trace_lines.specs.declared.line.Line.TheVariants.{At, Steal, Show}

-- the last moment; initially 0
abbrev pub moment_after : List Line → ℕ
moment_after [] = 0
moment_after (At seconds ∷ lines) = seconds
moment_after (line ∷ lines) = moment_after lines

-- the line makes a request, which takes the next place
abbrev pub takes_place : Line → Bool
takes_place (At seconds) = false
takes_place (Steal thief owner) = false
takes_place (Show place) = false
takes_place line = true

-- the number of places taken
abbrev pub places_after : List Line → ℕ
places_after [] = 0
places_after (line ∷ lines) = if takes_place line then suc (places_after lines) else places_after lines
