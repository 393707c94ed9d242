-- Exchanges over links. They are unknown for a real link, but each link counts its calls and its faults.
use Rattle.std.specs.Prelude.{◌≡◌, ◌≤◌, ℕ, List, [], ◌∷◌, ◌++◌, Option, Some, None, option_map, Result, Ok, Err}
use Rattle.sso_base.specs.Faults.{Rose}
use Rattle.sso_base.specs.Words.{Text}
use Rattle.server_desk.specs.Doors.{grown}
use Rattle.server_desk.specs.declared.link.LinkNo.{LinkNo}
use Rattle.server_desk.specs.declared.link.LinkNo.TheVariants.{NoMemory, Failed}

-- the recipient, the bytes that were sent, and those that came back; none if the exchange failed
pub record Exchange : Type 0 where
  pub to : Text
  pub asked : List ℕ
  pub back : Option (List ℕ)

-- a link: the exchanges over it, failed ones too, its number of calls, and of faults
pub record LinkState : Type 0 where
  pub exchanges : Option (List Exchange)
  pub calls : ℕ
  pub faults : ℕ

-- a link in memory: the answers to come, the exchanges, and its number of calls
pub record LinkMemory : Type 0 where
  pub answers : List (List ℕ)
  pub exchanges : List Exchange
  pub calls : ℕ

-- one more exchange over it
abbrev pub has_exchanged : LinkMemory → Text → List ℕ → Option (List ℕ) → LinkMemory
has_exchanged link to asked back =
    record link { exchanges = link.exchanges ++ record { to = to; asked = asked; back = back } ∷ [] }

-- a link in memory whose calls with some numbers fail, from 1: the link, those numbers, its number of calls, and of faults
pub record FaultyLinkMemory : Type 0 where
  pub link : LinkMemory
  pub failing : List ℕ
  pub calls : ℕ
  pub faults : ℕ

-- the first of the answers to come, or no bytes if none is left
abbrev pub next_answer : List (List ℕ) → List ℕ
next_answer [] = []
next_answer (answer ∷ answers) = answer

-- one more exchange
abbrev pub with_exchange : Option (List Exchange) → Exchange → Option (List Exchange)
with_exchange before exchange = option_map (λ exchanges. exchanges ++ exchange ∷ []) before

-- the exchanges after a call; if there was no memory for the exchange, nothing was sent
abbrev pub after_exchange : Option (List Exchange) → Text → List ℕ → Result (List ℕ) LinkNo → Option (List Exchange)
after_exchange before to asked (Ok back) = with_exchange before (record { to = to; asked = asked; back = Some back })
after_exchange before to asked (Err Failed) = with_exchange before (record { to = to; asked = asked; back = None })
after_exchange before to asked (Err NoMemory) = before

-- The effect of a call: the exchange was added, the call was counted, and the link's faults rose if it failed.
pub record TookCall (old new : LinkState) (to : Text) (asked : List ℕ) (result : Result (List ℕ) LinkNo) : Type 0 where
  pub told : new.exchanges ≡ after_exchange old.exchanges to asked result
  pub counted : new.calls ≡ grown old.calls
  pub later : old.faults ≤ new.faults
  pub failed : result ≡ Err Failed → Rose old.faults new.faults

-- a link with unknown exchanges
abbrev pub untold_link : ℕ → ℕ → LinkState
untold_link calls faults = record { exchanges = None; calls = calls; faults = faults }

-- the state of a link in memory: its exchanges are known, and it never fails
abbrev pub told_link : LinkMemory → LinkState
told_link link = record { exchanges = Some link.exchanges; calls = link.calls; faults = 0 }

-- the state of a link in memory some of whose calls fail
abbrev pub told_faulty_link : FaultyLinkMemory → LinkState
told_faulty_link link = record { exchanges = Some link.link.exchanges; calls = link.calls; faults = link.faults }
