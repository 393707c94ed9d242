-- The model of the provider: its setup, its history, oldest first, and its rows.
use Rattle.std.specs.Prelude.{List, reverse}
use Rattle.client_registry.specs.Configuration.{Configuration}
use Rattle.code_grant.specs.Tables.{Tables}
use Rattle.op_answer.specs.Past.{OpPair, OpPast}

pub record Providing : Type 0 where
  pub registry : Configuration
  pub history : List OpPair
  pub tables : Tables

-- its history with the newest pair first
abbrev pub past_of : Providing → OpPast
past_of p = reverse p.history
