-- The words by position, and the grammar that clap receives.
use Rattle.std.specs.Prelude.{◌≡◌, true, List, Option, Some, None, codes, slice_get}
use Rattle.std.specs.Option.{option_copied}
use Rattle.sso_base.specs.Words.{Text}
use Rattle.clap.specs.Walk.{Rule}
use Rattle.clap.specs.Simple.{App, new_app, new_rule, with_rule, on_top}
use Rattle.command_line.specs.declared.command.Command.{Command}
use Rattle.command_line.specs.declared.positionals.Positionals.{Positionals}
use Rattle.command_line.specs.Commands.{of_two, of_three, of_four}

-- each name has the word at its position
pub record HasPlaces (p : Positionals) (words : List Text) : Type 0 where
  pub name : option_copied p.name ≡ slice_get words 0
  pub first : option_copied p.first ≡ slice_get words 1
  pub second : option_copied p.second ≡ slice_get words 2
  pub third : option_copied p.third ≡ slice_get words 3

-- the command with these words at these positions
abbrev pub command_at : Option Text → Option Text → Option Text → Option Text → Option Command
command_at (Some name) (Some first) None None = of_two name first
command_at (Some name) (Some first) (Some second) None = of_three name first second
command_at (Some name) (Some first) (Some second) (Some third) = of_four name first second third
command_at name first second third = None

abbrev pub command_by_place : Positionals → Option Command
command_by_place p = command_at (option_copied p.name) (option_copied p.first) (option_copied p.second) (option_copied p.third)

-- a required positional
abbrev pub required_rule : Text → Rule
required_rule id = record (new_rule id) { required = true }

-- no program name before the words, and no `--help`
abbrev pub bare : App
bare = on_top (λ s. record s { no_binary_name = true; disable_help_flag = true }) (new_app (codes "sso"))

-- two positionals, and up to two more
unfoldable pub flat : App
flat = with_rule (with_rule (with_rule (with_rule bare
    (required_rule (codes "name"))) (required_rule (codes "first"))) (new_rule (codes "second"))) (new_rule (codes "third"))
