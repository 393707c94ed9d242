-- A core that counts: the weight of its requests, and its legal histories.
use Rattle.std.specs.Prelude.{◌≡◌, ℕ, ◌+◌, ◌≤◌, Bool, true, false, List, [], None, codes}
use Rattle.http_reply.specs.Replies.{plain}
use Rattle.serving.specs.Manner.{Manner}
use Rattle.sso_base.specs.declared.history.Pair.{Pair}
use Rattle.sso_base.specs.declared.http.Method.{Method}
use Rattle.sso_base.specs.declared.http.Method.TheVariants.{Post}
use Rattle.sso_base.specs.Journal.{most_of, history_weight}
use Rattle.sso_base.specs.Weights.{empty_weight}
use Rattle.serve_cases.specs.declared.tick.Tick.{Tick}

abbrev pub tick_weight : Tick → ℕ
tick_weight tick = tick.more + empty_weight

-- its setup is whether its history lasts
pub record Counting : Type 0 where
  pub lasts : Bool
  pub history : List (Pair Tick ℕ)

abbrev pub lasts_of : Counting → Bool
lasts_of tally = tally.lasts

-- a history is legal if it weighs no more than the limit
abbrev pub IsLight : Bool → List (Pair Tick ℕ) → Type 0
IsLight lasts history = history_weight tick_weight history ≤ most_of lasts

-- its journal has this limit
pub record KeepsTally (lasts : Bool) (history : List (Pair Tick ℕ)) (most : ℕ) : Type 0 where
  pub most_is : most ≡ most_of lasts
  pub light : IsLight lasts history

-- The role over it: whatever the HTTP request is, the core's request weighs more than half of the limit of a stored history, and
-- the reply is one line.
abbrev pub heavy_tick : Tick
heavy_tick = record { more = 200000000 }

-- each request with a form proves a password
abbrev pub is_post : Method → Bool
is_post Post = true
is_post method = false

abbrev pub tally_manner : Manner Tick ℕ
tally_manner = record {
  first = codes "one";
  second = codes "two";
  prepared = λ request. heavy_tick;
  proves = λ request. is_post request.method;
  question = λ reply. None;
  answered = λ reply answer. heavy_tick;
  notices = λ reply. [];
  http = λ reply. plain 200 (codes "counted");
  takes = λ tick. true;
  weighs = tick_weight;
  workers = 64;
}
