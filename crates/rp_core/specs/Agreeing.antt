-- A relying party's tables and the lookups in its past: the rows that live at a moment are the same in both.
use Rattle.std.specs.Prelude.{◌≡◌, ℕ, true, List, reverse}
use Rattle.sso_base.specs.Rows.{live_rows}
use Rattle.sso_base.specs.Legal.{last_moment}
use Rattle.sso_base.specs.Journal.{most_of}
use Rattle.oidc_words.specs.declared.response_types.Types.{Types}
use Rattle.oidc_words.specs.Lives.{login_life, pending_life, visit_life, seen_life}
use Rattle.rp_login.specs.Rows.{login_begun, pending_begun, visit_begun, seen_begun, dead_begun}
use Rattle.held_rows.specs.Held.{none_after}
use Rattle.rp_login.specs.Tables.{Tables}
use Rattle.rp_answer.specs.Past.{RpPair, RpPast}
use Rattle.rp_answer.specs.Setup.{PartySetup, party_of}
use Rattle.rp_answer.specs.Logins.{live_logins}
use Rattle.rp_answer.specs.Pendings.{live_pendings}
use Rattle.rp_answer.specs.Visits.{live_visits}
use Rattle.rp_answer.specs.Seens.{live_seens}
use Rattle.rp_answer.specs.Deads.{live_deads}
use Rattle.rp_answer.specs.Legal.{IsLegalHistory}

pub record Agrees (types : Types) (t : Tables) (past : RpPast) (at : ℕ) : Type 0 where
  pub logins : live_rows login_life login_begun at t.logins ≡ live_logins past at
  pub pendings : live_rows pending_life pending_begun at t.pendings ≡ live_pendings types past at
  pub visits : live_rows visit_life visit_begun at t.visits ≡ live_visits types past at
  pub seens : live_rows seen_life seen_begun at t.seens ≡ live_seens past at
  pub deads : live_rows seen_life dead_begun at t.deads ≡ live_deads past at

-- no row in the tables begins after the moment
pub record IsBegun (t : Tables) (at : ℕ) : Type 0 where
  pub logins : none_after login_begun at t.logins ≡ true
  pub pendings : none_after pending_begun at t.pendings ≡ true
  pub visits : none_after visit_begun at t.visits ≡ true
  pub seens : none_after seen_begun at t.seens ≡ true
  pub deads : none_after dead_begun at t.deads ≡ true

-- the invariant of the party's tables, for a past
pub record KeepsPast (types : Types) (past : RpPast) (t : Tables) : Type 0 where
  pub agrees : Agrees types t past (last_moment past)
  pub begun : IsBegun t (last_moment past)

-- the invariant of a party: the tables are those of its history, which is legal, and its limit is that of the configuration
pub record Keeps (s : PartySetup) (history : List RpPair) (t : Tables) (most : ℕ) : Type 0 where
  pub tables : KeepsPast (party_of s).types (reverse history) t
  pub legal : IsLegalHistory s history
  pub most_is : most ≡ most_of s.configuration.lasting
