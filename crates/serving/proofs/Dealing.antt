-- Doors of seats that are opened one after another.
use Rattle.std.proofs.Common.{◌≡◌, ℕ, zero, suc, ◌+◌, ◌<◌, ◌≤◌, List, [], ◌∷◌, length, take, drop, get_or, set, add-one, arith, sym, ◌∙◌, ap, subst}
use Rattle.std.proofs.lemmas.List.{take_all, drop-set-lt, drop-drop}
use Rattle.server_desk.specs.Doors.{DoorState}
use Rattle.serving.specs.declared.seats.Seat.{Seat}
use Rattle.serving.specs.Seating.{OpenedSo, AllOpened}

module _ {O A R D L C W S K : Type 0} (state : D → DoorState S K) (closings faults : D → ℕ) (so : DoorState S K → DoorState S K) where
  abbrev One : Seat O D L C W A R → Seat O D L C W A R → Type 0
  One old new = OpenedSo state closings faults so old new

  abbrev Each : List (Seat O D L C W A R) → List (Seat O D L C W A R) → Type 0
  Each olds news = AllOpened state closings faults so olds news

  next_opened : (olds now : List (Seat O D L C W A R)) (i : ℕ) (d new : Seat O D L C W A R)
      → Each (take i olds) (take i now) → drop i now ≡ drop i olds → i < length now → One (get_or now i d) new
      → Each (take (suc i) olds) (take (suc i) (set now i new))
  next_opened olds [] i d new sofar rest low one = absurd (omega arith)
  next_opened [] (n ∷ ns) zero d new sofar rest low one = absurd (cc rest)
  next_opened [] (n ∷ ns) (suc i) d new sofar rest low one = absurd sofar
  next_opened (o ∷ os) (n ∷ ns) zero d new sofar rest low one =
      let same : n ≡ o = (cc rest) in
      (subst (λ (s : Seat O D L C W A R). One s new) same one, tt)
  next_opened (o ∷ os) (n ∷ ns) (suc i) d new sofar rest low one =
      (sofar.0, next_opened os ns i d new sofar.1 rest (omega arith) one)

  -- one more door was opened
  pub opened_more : (olds now : List (Seat O D L C W A R)) (i : ℕ) (d new : Seat O D L C W A R)
      → Each (take i olds) (take i now) → drop i now ≡ drop i olds → i < length now → One (get_or now i d) new
      → Each (take (i + 1) olds) (take (i + 1) (set now i new))
  opened_more olds now i d new sofar rest low one =
      subst (λ (n : ℕ). Each (take n olds) (take n (set now i new))) (sym (add-one i)) (next_opened olds now i d new sofar rest low one)

  -- and those behind it are as they were
  pub others_left : (olds now : List (Seat O D L C W A R)) (i : ℕ) (new : Seat O D L C W A R) → drop i now ≡ drop i olds → drop (i + 1) (set now i new) ≡ drop (i + 1) olds
  others_left olds now i new rest =
      drop-set-lt (i + 1) now i new (omega arith) ∙ sym (drop-drop 1 i now) ∙ ap (λ l. drop 1 l) rest ∙ drop-drop 1 i olds

  -- all were
  pub opened_all : (olds now : List (Seat O D L C W A R)) (i : ℕ) → Each (take i olds) (take i now) → length now ≡ length olds → length now ≤ i → Each olds now
  opened_all olds now i sofar count all =
      let old : take i olds ≡ olds = take_all i olds (omega arith) in
      let new : take i now ≡ now = take_all i now all in
      subst (λ (ns : List (Seat O D L C W A R)). Each olds ns) new (subst (λ (os : List (Seat O D L C W A R)). Each os (take i now)) old sofar)
