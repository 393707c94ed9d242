-- The model of a relying party: its setup, its history, oldest first, and its tables.
use Rattle.std.specs.Prelude.{List, reverse, Option, ℕ}
use Rattle.sso_base.specs.Words.{Word}
use Rattle.rp_login.specs.Tables.{Tables}
use Rattle.rp_login.specs.declared.rows.PendingRow.{PendingRow}
use Rattle.rp_login.specs.declared.rows.Stage.{Stage}
use Rattle.rp_answer.specs.Past.{RpPair, RpPast}
use Rattle.rp_answer.specs.Setup.{PartySetup, party_of}
use Rattle.rp_answer.specs.Pendings.{live_pending, live_pendings}

pub record Relying : Type 0 where
  pub setup : PartySetup
  pub history : List RpPair
  pub tables : Tables

-- its history with the newest pair first
abbrev pub past_of : Relying → RpPast
past_of r = reverse r.history

-- its live exchange with this word, if it waits for this response
abbrev pub exchange_at : Relying → ℕ → Word → Stage → Option PendingRow
exchange_at r at w waits = live_pending (party_of r.setup).types (past_of r) at w waits

-- its live exchanges
abbrev pub exchanges_at : Relying → ℕ → List PendingRow
exchanges_at r at = live_pendings (party_of r.setup).types (past_of r) at
