-- The weight of a core's history, the history after one more pair, and which histories are legal. A history is a list of pairs,
-- oldest first.
use Rattle.std.specs.Prelude.{◌≡◌, ◌≤◌, ℕ, suc, nat_lt, List, [], ◌∷◌, ◌++◌, length, reverse, Bool, true, false, if◌then◌else◌, ◌+◌, ◌*◌, ◌^◌, ◌<◌, Err, Result}
use Rattle.std.specs.List.{sum_by}
use Rattle.sso_base.specs.declared.history.Entry.{Entry}
use Rattle.sso_base.specs.declared.history.Pair.{Pair}
use Rattle.sso_base.specs.Legal.{last_moment, IsLegalBy}
use Rattle.sso_base.specs.declared.step.CoreNo.{CoreNo}
use Rattle.sso_base.specs.declared.step.CoreNo.TheVariants.{JournalFull}

-- the greatest weight of a history that is stored
abbrev pub most_weight : ℕ
most_weight = 268435456

-- the greatest weight of a history that lasts, which is not stored
abbrev pub lasting_weight : ℕ
lasting_weight = 9223372036854775807

-- the greatest weight of a history, by whether it lasts
abbrev pub most_of : Bool → ℕ
most_of true = lasting_weight
most_of false = most_weight

-- the greatest number of pairs of a history that is stored: no pair weighs less than 1,024
abbrev pub most_stored_pairs : ℕ
most_stored_pairs = 262144

-- the greatest number of pairs of any history
abbrev pub most_pairs : ℕ
most_pairs = 9007199254740992

-- the sum of the weights of its requests
abbrev pub history_weight : {A R : Type 0} → (A → ℕ) → List (Pair A R) → ℕ
history_weight {A} {R} weighs history = sum_by (λ (p : Pair A R). weighs p.entry.ask) history

-- time never goes back: an entry has this moment, or the last entry's if that is later
abbrev pub entry_moment : {A R : Type 0} → List (Pair A R) → ℕ → ℕ
entry_moment history at = if nat_lt at (last_moment (reverse history)) then last_moment (reverse history) else at

abbrev pub entry_of : {A R : Type 0} → List (Pair A R) → ℕ → List (List ℕ) → A → Entry A
entry_of history at fresh asked = record { at = entry_moment history at; fresh = fresh; ask = asked }

-- the history with one more pair
abbrev pub extended : {A R : Type 0} → List (Pair A R) → ℕ → List (List ℕ) → A → R → List (Pair A R)
extended history at fresh asked reply = history ++ (record { entry = entry_of history at fresh asked; reply = reply }) ∷ []

-- each reply is the answer of the core, and the history weighs no more than this limit
pub record IsLegalHistoryBy
    {A R : Type 0} (IsAsk : A → Type 0) (answer : List (Pair A R) → Entry A → R) (weighs : A → ℕ) (most : ℕ)
    (history : List (Pair A R)) : Type 0 where
  pub past : IsLegalBy IsAsk answer (reverse history)
  pub light : history_weight weighs history ≤ most

-- the pairs of a journal, whether it stores them, the number of pairs it has room for, and the greatest weight of its history
pub record Journaled (A R : Type 0) : Type 0 where
  pub pairs : List (Pair A R)
  pub stores : Bool
  pub capacity : ℕ
  pub most : ℕ

-- a journal that stores nothing always has room for one more pair
abbrev pub capacity_of : Bool → ℕ → ℕ → ℕ
capacity_of true count room = room
capacity_of false count room = suc count

-- The stored pairs are all pairs, or none. The count, the weight and the last moment are those of the pairs, and the weight is
-- at most the limit.
pub record IsJournal
    {A R : Type 0} (weighs : A → ℕ) (stores : Bool) (pairs stored : List (Pair A R)) (count weight last most : ℕ) : Type 0 where
  pub all : stores ≡ true → stored ≡ pairs
  pub none : stores ≡ false → stored ≡ []
  pub count_is : count ≡ length pairs
  pub weight_is : weight ≡ history_weight weighs pairs
  pub last_is : last ≡ last_moment (reverse pairs)
  pub few : 1024 * count ≤ weight
  pub light : weight ≤ most
  pub short : most < 2 ^ 63

-- this is the refusal of a history of this weight, whose limit leaves no room for this much more
abbrev pub IsFullRefusal : ℕ → ℕ → ℕ → CoreNo → Type 0
IsFullRefusal most weight more refusal = (refusal ≡ JournalFull weight) × (most < weight + more)

-- if a call is refused so, it is for a history of this weight, whose limit leaves no room for this much more
abbrev pub ReportsFull : {A : Type 0} → ℕ → Result A CoreNo → ℕ → ℕ → Type 0
ReportsFull most result weight more = (w : ℕ) → result ≡ Err (JournalFull w) → (w ≡ weight) × (most < w + more)
