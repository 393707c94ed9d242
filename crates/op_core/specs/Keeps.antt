-- The provider's invariant: its tables agree with its history, the history is legal, and its limit is that of the configuration.
use Rattle.std.specs.Prelude.{◌≡◌, ℕ, List, reverse}
use Rattle.sso_base.specs.Legal.{last_moment}
use Rattle.sso_base.specs.Journal.{most_of}
use Rattle.client_registry.specs.Configuration.{Configuration}
use Rattle.code_grant.specs.Tables.{Tables}
use Rattle.op_answer.specs.Past.{OpPair, OpPast}
use Rattle.op_answer.specs.Legal.{IsLegalHistory}
use Rattle.op_tables.specs.Agreeing.{Agrees, IsBegun, AreOwn}

-- the invariant of the tables, for a past
pub record KeepsPast (c : Configuration) (past : OpPast) (t : Tables) : Type 0 where
  pub agrees : Agrees t past (last_moment past)
  pub begun : IsBegun t (last_moment past)
  pub own : AreOwn c t

abbrev pub KeepsTables : Configuration → List OpPair → Tables → Type 0
KeepsTables c history t = KeepsPast c (reverse history) t

pub record Keeps (c : Configuration) (history : List OpPair) (t : Tables) (most : ℕ) : Type 0 where
  pub tables : KeepsTables c history t
  pub legal : IsLegalHistory c history
  pub most_is : most ≡ most_of c.lasting
