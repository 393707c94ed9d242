-- The command of the words after the program's name.
use Rattle.std.specs.Prelude.{◌≤◌, ℕ, Bool, false, true, not, ◌==◌, List, [], ◌∷◌, Option, Some, None, is_some, codes, if◌then◌else◌}
use Rattle.std.specs.Fmt.{decimal}
use Rattle.std.specs.List.{list_all}
use Rattle.std.specs.Str.{bytes_eq}
use Rattle.sso_base.specs.Words.{Text}
use Rattle.command_line.specs.declared.command.Command.{Command}
use Rattle.command_line.specs.declared.command.Command.TheVariants.{Replay, Op, Rp, OpPlus, RpPlus, Storm, Token}
use Rattle.command_line.specs.Numbers.{number_in}

-- the word is not empty, and does not begin with `-`
abbrev pub is_plain : Text → Bool
is_plain [] = false
is_plain (first ∷ rest) = not (first == 45)

-- the commands of two words
abbrev pub of_two : Text → Text → Option Command
of_two name config =
    if bytes_eq name (codes "op") then Some (Op config)
    else if bytes_eq name (codes "op-plus") then Some (OpPlus config)
    else None

-- a storm of these numbers, if there are both
abbrev pub storm_of : Option ℕ → Option ℕ → Option Command
storm_of (Some number) (Some count) = Some (Storm number count)
storm_of number count = None

-- the commands of three words; a storm has a number below 2^32, and 1 to 10,000 logins
abbrev pub of_three : Text → Text → Text → Option Command
of_three name first second =
    if bytes_eq name (codes "replay") then Some (Replay first second)
    else if bytes_eq name (codes "rp") then Some (Rp first second None)
    else if bytes_eq name (codes "rp-plus") then Some (RpPlus first second)
    else if bytes_eq name (codes "storm") then storm_of (number_in 0 4294967295 first) (number_in 1 10000 second)
    else if bytes_eq name (codes "token") then Some (Token first second)
    else None

-- the commands of four words
abbrev pub of_four : Text → Text → Text → Text → Option Command
of_four name config party discovery =
    if bytes_eq name (codes "rp") then Some (Rp config party (Some discovery)) else None

-- the command of these words, by their count and the first of them
abbrev pub command_in : List Text → Option Command
command_in (name ∷ first ∷ []) = of_two name first
command_in (name ∷ first ∷ second ∷ []) = of_three name first second
command_in (name ∷ first ∷ second ∷ third ∷ []) = of_four name first second third
command_in words = None

-- the command of these words, each of which must be plain
unfoldable pub command_of : List Text → Option Command
command_of words = if list_all is_plain words then command_in words else None

-- the words are a command
abbrev pub is_command : List Text → Bool
is_command words = is_some (command_of words)

-- the command replays a trace
abbrev pub asks_replay : Option Command → Bool
asks_replay (Some (Replay config trace)) = true
asks_replay command = false

-- the command serves the provider
abbrev pub asks_op : Option Command → Bool
asks_op (Some (Op config)) = true
asks_op command = false

-- the command serves a relying party
abbrev pub asks_rp : Option Command → Bool
asks_rp (Some (Rp config name discovery)) = true
asks_rp command = false

-- the command serves the provider with proof keys
abbrev pub asks_op_plus : Option Command → Bool
asks_op_plus (Some (OpPlus config)) = true
asks_op_plus command = false

-- the command serves a relying party with proof keys
abbrev pub asks_rp_plus : Option Command → Bool
asks_rp_plus (Some (RpPlus config name)) = true
asks_rp_plus command = false

-- the command plays a storm
abbrev pub asks_storm : Option Command → Bool
asks_storm (Some (Storm number count)) = true
asks_storm command = false

-- the command verifies a token
abbrev pub asks_token : Option Command → Bool
asks_token (Some (Token secret token)) = true
asks_token command = false

-- the words that write a command
abbrev pub words_of : Command → List Text
words_of (Replay config trace) = codes "replay" ∷ config ∷ trace ∷ []
words_of (Op config) = codes "op" ∷ config ∷ []
words_of (Rp config name None) = codes "rp" ∷ config ∷ name ∷ []
words_of (Rp config name (Some discovery)) = codes "rp" ∷ config ∷ name ∷ discovery ∷ []
words_of (OpPlus config) = codes "op-plus" ∷ config ∷ []
words_of (RpPlus config name) = codes "rp-plus" ∷ config ∷ name ∷ []
words_of (Storm number count) = codes "storm" ∷ decimal number ∷ decimal count ∷ []
words_of (Token secret token) = codes "token" ∷ secret ∷ token ∷ []

-- the numbers of a storm are in their ranges
abbrev pub IsInRange : Command → Type 0
IsInRange (Storm number count) = (number ≤ 4294967295) × (1 ≤ count) × (count ≤ 10000)
IsInRange command = Unit {0}
