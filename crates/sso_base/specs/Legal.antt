-- Legal pasts: each reply is the answer to its entry after its own past, and time never goes back.
-- A past is a history with the newest pair first.
use Rattle.std.specs.Prelude.{◌≡◌, ◌≤◌, ℕ, List, [], ◌∷◌, length}
use Rattle.sso_base.specs.declared.history.Entry.{Entry}
use Rattle.sso_base.specs.declared.history.Pair.{Pair}
use Rattle.sso_base.specs.Values.{AreWords, latest_moment}

-- the moment of the last pair; 0 if there is none
abbrev pub last_moment : {A R : Type 0} → List (Pair A R) → ℕ
last_moment [] = 0
last_moment (p ∷ past) = p.entry.at

-- An entry has a moment, four fresh words, and a possible request. `IsAsk` says which requests are possible for a role.
pub record IsEntry {A : Type 0} (IsAsk : A → Type 0) (e : Entry A) : Type 0 where
  pub moment : e.at ≤ latest_moment
  pub four : length e.fresh ≡ 4
  pub words : AreWords e.fresh
  pub ask : IsAsk e.ask

-- each reply in the past is the answer of the core
abbrev pub IsLegalBy : {A R : Type 0} → (A → Type 0) → (List (Pair A R) → Entry A → R) → List (Pair A R) → Type 0
IsLegalBy IsAsk answer [] = Unit {0}
IsLegalBy IsAsk answer (p ∷ past) =
    IsLegalBy IsAsk answer past × IsEntry IsAsk p.entry × (last_moment past ≤ p.entry.at) × (p.reply ≡ answer past p.entry)
