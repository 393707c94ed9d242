-- How a call of the program ends, as one statement: what is true at each status. The contract of the top call has one clause a
-- status.
use Rattle.std.specs.Prelude.{◌≡◌, ◌⊎◌, ℕ, ◌≤◌, MatchBool, true, false, ◌==◌, List, Option}
use Rattle.sso_base.specs.Words.{Text}
use Rattle.sso_base.specs.Outside.{Content}
use Rattle.server_desk.specs.declared.desk.Desk.{Desk}
use Rattle.serving.specs.Summaries.{Telling}
use Rattle.sso.specs.Ends.{ShowsUsage, ReportsShelf, RefusesConfiguration, RefusesTrace, RefusesToken, RefusesMetadata, OpensToken}
use Rattle.sso.specs.Ends.{RunsProvider, RunsParty, RunsProviderPlus, RunsPartyPlus, RunsServer, StopsWriting, is_refusal}
use Rattle.sso.specs.SignOn.{Replays, Storms}

-- a call: its inputs and its results
pub record Call (D L C W S K : Type 0) : Type 0 where
  pub tells : Telling D L C W S K
  pub olds : List (Desk D L C W)
  pub news : List (Desk D L C W)
  pub contents : Option (List Content)
  pub shelf_before : ℕ
  pub shelf_after : ℕ
  pub words : List Text
  pub before : ℕ
  pub after : ℕ
  pub old : Option (List ℕ)
  pub new : Option (List ℕ)

module _ {D L C W S K : Type 0} (call : Call D L C W S K) where
  -- a command was carried out
  abbrev pub Runs : Type 0
  Runs =
      Replays call.contents call.words 0 call.old call.new
      ⊎ OpensToken call.contents call.words call.old call.new
      ⊎ RunsProvider call.tells call.olds call.news call.contents call.words false call.old call.new
      ⊎ RunsParty call.tells call.olds call.news call.contents call.words false call.old call.new
      ⊎ RunsProviderPlus call.tells call.olds call.news call.contents call.words false call.old call.new
      ⊎ RunsPartyPlus call.tells call.olds call.news call.contents call.words false call.old call.new
      ⊎ Storms call.words 0 call.old call.new

  -- a play ended with this status
  abbrev pub Played : ℕ → Type 0
  Played status = Replays call.contents call.words status call.old call.new ⊎ Storms call.words status call.old call.new

  abbrev pub FailsAtDoor : Type 0
  FailsAtDoor = RunsServer call.tells call.olds call.news call.contents call.words true call.old call.new

  abbrev pub Refuses : Type 0
  Refuses = RefusesToken call.contents call.words call.old call.new ⊎ RefusesMetadata call.contents call.words call.old call.new

  abbrev pub Stops : Type 0
  Stops = StopsWriting call.tells call.olds call.news call.contents call.shelf_before call.shelf_after call.words call.before call.after call.old call.new

  -- what is true at a status
  abbrev pub At : ℕ → Type 0
  At status =
      MatchBool (status == 0) Runs
      (MatchBool (status == 1) (call.new ≡ call.old)
      (MatchBool (status == 2) (ShowsUsage call.words call.old call.new)
      (MatchBool (status == 3) (RefusesConfiguration call.contents call.words call.old call.new)
      (MatchBool (status == 4) (RefusesTrace call.contents call.words call.old call.new)
      (MatchBool (status == 5) (ReportsShelf call.shelf_before call.shelf_after call.words call.old call.new)
      (MatchBool (status == 6) Stops
      (MatchBool (status == 7) (Played 7)
      (MatchBool (status == 8) (Played 8)
      (MatchBool (status == 9) FailsAtDoor
      (MatchBool (status == 10) Refuses ⊥))))))))))

  pub record Ended (status : ℕ) : Type 0 where
    pub at : At status
    pub range : status ≤ 10
    pub unserved : is_refusal status ≡ true → call.news ≡ call.olds
