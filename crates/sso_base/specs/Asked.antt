-- The history that requests and the replies to them make, and requests that weigh too much for one.
use Rattle.std.specs.Prelude.{◌≡◌, ℕ, ◌+◌, ◌<◌, List, [], ◌∷◌, ◌++◌}
use Rattle.std.specs.List.{sum_by}
use Rattle.sso_base.specs.declared.asked.Asked.{Asked}
use Rattle.sso_base.specs.declared.history.Pair.{Pair}
use Rattle.sso_base.specs.Journal.{extended}

-- the history with these requests and the replies to them, in their order
abbrev pub history_by : {A R : Type 0} → List (Pair A R) → List (Asked A) → List R → List (Pair A R)
history_by history [] replies = history
history_by history (a ∷ asks) [] = history
history_by history (a ∷ asks) (r ∷ replies) = history_by (extended history a.at a.fresh a.ask r) asks replies

-- the sum of the weights of these requests
abbrev pub asks_weight : {A : Type 0} → (A → ℕ) → List (Asked A) → ℕ
asks_weight {A} weighs asks = sum_by (λ (a : Asked A). weighs a.ask) asks

-- Some of these requests, from the first on, have this weight, and the one after them is too heavy for a history of that weight.
pub record FillsHistory {A : Type 0} (weighs : A → ℕ) (most : ℕ) (asks : List (Asked A)) (weight : ℕ) : Type 0 where
  pub front : List (Asked A)
  pub next : Asked A
  pub rest : List (Asked A)
  pub all : asks ≡ front ++ next ∷ rest
  pub weighs_so : weight ≡ asks_weight weighs front
  pub full : most < weight + weighs next.ask
