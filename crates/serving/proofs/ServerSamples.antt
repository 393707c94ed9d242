-- The definitions of servers computed on small cases: one desk with one connection, and no desk.
use Rattle.std.proofs.Common.{◌≡◌, ◌≢◌, ◌⊎◌, inl, inr, ℕ, zero, suc, ◌+◌, ◌≤◌, Bool, true, false, List, [], ◌∷◌, length, codes, Option, Some, None, refl, ap, ◌∙◌, arith}
use Rattle.std.specs.Prelude.{unwrap_or, option_map}
use Rattle.std.specs.List.{AllByRecursion}
use Rattle.sso_base.specs.Faults.{Rose}
use Rattle.sso_base.specs.Words.{Text, Word}
use Rattle.sso_base.specs.declared.history.Pair.{Pair}
use Rattle.server_desk.specs.declared.connection.Connection.{Connection}
use Rattle.server_desk.specs.declared.desk.Desk.{Desk}
use Rattle.server_desk.specs.Doors.{DoorState, DoorMemory, told_state, new_door, with_fault}
use Rattle.server_desk.specs.Links.{LinkState}
use Rattle.turn_store.specs.declared.calls.Closed.{Closed}
use Rattle.turn_store.specs.declared.store.Pass.{Pass}
use Rattle.turn_store.specs.Places.{IsEachOnce}
use Rattle.serving.specs.declared.ends.ServedEnd.TheVariants as end
use Rattle.serving.specs.declared.seats.Seat.{Seat}
use Rattle.serving.specs.declared.summary.Summary.{Summary}
use Rattle.serving.specs.declared.work.Next.TheVariants as next
use Rattle.serving.specs.declared.work.Worked.{Worked}
use Rattle.serving.specs.declared.work.WorkEnd.TheVariants as work_end
use Rattle.serving.specs.Manner.{bytes_by}
use Rattle.serving.specs.Seating.{new_seat, seated, is_left, OpenedSo, Opened, SeatServed, SeatsServed}
use Rattle.serving.specs.Steps.{history_after, called_of}
use Rattle.serving.specs.Summaries.{Telling, Failed, Unopened, EndedWell, SomeFailed, ServedAt, DeskServed, AllServed, ClosedSo, Summarises}
use Rattle.serving.specs.Working.{Service, steps_in, readings_in, DrawnIn, Passed, SomeEnded, IsNumber}
use Rattle.sso_http.proofs.Samples.{get_text}
use Rattle.serving.proofs.Samples.{Stream, held, failures, manner, limit, History, moments, words, lone, step1, link_with, drawn-at_its_reading, came, went, done_in, served-a_reply, knows}

-- ---- a desk with one connection

abbrev Door : Type 0
Door = DoorMemory Stream Stream

-- a link, a clock and a draw are what they tell
abbrev Place : Type 0
Place = Desk Door LinkState (ℕ → Option ℕ) (ℕ → Option Word)

-- everything is told
abbrev telling : Telling Door LinkState (ℕ → Option ℕ) (ℕ → Option Word) Stream Stream
telling = record {
  state = λ (door : Door). told_state door;
  closings = λ (door : Door). door.closings;
  door_faults = λ (door : Door). door.faults;
  link_state = λ (link : LinkState). link;
  moments = λ (clock : ℕ → Option ℕ). clock;
  words = λ (draw : ℕ → Option Word). draw;
  left = held;
  read_faults = failures;
  taken = held;
  write_faults = failures;
}

-- a desk whose clock was not read yet
abbrev desk_at : Door → Place
desk_at door = record { door = door; tools = record { link = link_with [] 0; clock = moments; draw = words }; turns = 1 }

-- how many connections the first of some desks gave
abbrev given_at : List Place → ℕ
given_at [] = 0
given_at (desk ∷ desks) = desk.door.given

abbrev before : Place
before = desk_at (new_door (came get_text ∷ []))

-- it listens at h:1, and served the one connection
abbrev served_door : Door
served_door = record (new_door []) { place = codes "h:1"; served = went (bytes_by manner 1) ∷ []; given = 1 }

abbrev after : Place
after = record (desk_at served_door) { tools = record { link = link_with [] 0; clock = λ i. moments (i + 1); draw = λ i. words (i + 4) } }

abbrev service : Service Stream Stream ℕ ℕ
service = record { came = came get_text; went = went (bytes_by manner 1); work = done_in (lone ∷ []) []; served = record { places = 1; end = end.Written } }

their_steps : steps_in (service ∷ service ∷ []) ≡ lone ∷ lone ∷ []
their_steps = refl

their_readings : readings_in (service ∷ service ∷ []) ≡ 2
their_readings = refl

-- a second connection with the moment and the words of the first
not_drawn-the_same_words_again : DrawnIn moments words 0 (record service { work = record service.work { readings = 0 } } ∷ service ∷ []) → ⊥
not_drawn-the_same_words_again drawn = let few : 1 ≤ 0 = drawn.1 in absurd (omega (arith, few))

passed-one_connection : (place : Text) → Passed (told_state (record before.door { place = place })) (told_state served_door) (service ∷ [])
passed-one_connection place = record { coming = refl; served = refl; given = refl }

not_passed-where_it_was_not_given_back : Passed (told_state before.door) (told_state (record served_door { served = [] })) (service ∷ []) → ⊥
not_passed-where_it_was_not_given_back passed = let e : 0 ≡ 1 = ap (λ (o : Option (List (Connection Stream Stream))). length (unwrap_or o [])) passed.served in absurd (omega (arith, e))

other_end : SomeEnded end.Link (service ∷ []) → Rose 0 0
other_end (inl e) = absurd (cc e)
other_end (inr none) = absurd none

at_desk-one_connection : (place : Text) → ServedAt telling manner limit (history_after lone) (desk_at (record before.door { place = place })) after (service ∷ [])
at_desk-one_connection place = record {
  passed = passed-one_connection place;
  sent = record { told = refl; counted = refl; later = omega arith; failed = omega arith };
  drawn = ((drawn-at_its_reading 0 [] 1 1, tt), omega arith, tt);
  clock = λ i. refl;
  draw = λ i. refl;
  served = (served-a_reply, tt);
  failed = other_end;
}

not_at_desk-a_reading_too_few : ServedAt telling manner limit (history_after lone) before (desk_at served_door) (service ∷ []) → ⊥
not_at_desk-a_reading_too_few at = let e : ◌≡◌ {A = Option ℕ} (Some 0) (Some 1) = at.clock 0 in absurd cc

is_number-one_for_a_served : IsNumber next.Served 1
is_number-one_for_a_served = refl

not_is_number-one_for_a_closed_door : IsNumber next.Closed 1 → ⊥
not_is_number-one_for_a_closed_door e = absurd cc

-- ---- a server with one desk

ended_well-after_its_turns : EndedWell telling before after
ended_well-after_its_turns = inl refl

ended_well-by_a_closed_door : EndedWell telling before (desk_at (record before.door { closings = 1 }))
ended_well-by_a_closed_door = inr (omega arith)

not_ended_well-before_its_turns : EndedWell telling before before → ⊥
not_ended_well-before_its_turns (inl e) = absurd cc
not_ended_well-before_its_turns (inr rose) = absurd (omega (arith, rose))

failed-by_its_door : Failed telling before (desk_at (with_fault before.door))
failed-by_its_door = omega arith

not_failed-without_a_fault : Failed telling before after → ⊥
not_failed-without_a_fault rose = absurd (omega (arith, rose))

some_failed-the_only_one : SomeFailed telling (before ∷ []) (desk_at (with_fault before.door) ∷ [])
some_failed-the_only_one = inl failed-by_its_door

not_some_failed-of_none : SomeFailed telling [] [] → ⊥
not_some_failed-of_none is = is

desk_served : DeskServed telling manner limit (history_after lone) true (λ old. option_map (λ place. codes "h:1") old) before after (service ∷ [])
desk_served = record {
  served = at_desk-one_connection [];
  order = (([], refl), ([], refl));
  turns = refl;
  ended = λ e. inl ended_well-after_its_turns;
  idle = λ e. absurd (cc e);
  place = λ e. inl refl;
}

no_other_place : (Some (codes "h:1") ≡ Some []) ⊎ Failed telling before after → ⊥
no_other_place (inl e) = absurd cc
no_other_place (inr rose) = absurd (omega (arith, rose))

not_desk_served-at_another_place : DeskServed telling manner limit (history_after lone) true (λ place. Some []) before after (service ∷ []) → ⊥
not_desk_served-at_another_place d = no_other_place (d.place refl)

all_served-one_desk : AllServed telling manner limit (history_after lone) true (codes "h:1") (before ∷ []) (after ∷ []) ((service ∷ []) ∷ [])
all_served-one_desk = (λ e. absurd (cc e), desk_served, tt)

not_all_served-a_desk_too_few : AllServed telling manner limit [] true (codes "h:1") (before ∷ []) [] [] → ⊥
not_all_served-a_desk_too_few is = is

-- the door failed as it was to listen, and nobody was served
abbrev shut : Place
shut = desk_at (with_fault before.door)

unopened-by_a_fault : Unopened telling before shut
unopened-by_a_fault = record { failed = failed-by_its_door; held = refl; same = refl }

not_unopened-where_it_listens : Unopened telling before (desk_at (record (with_fault before.door) { place = codes "h:1" })) → ⊥
not_unopened-where_it_listens un = let e : Some (codes "h:1") ≡ Some [] = ap (λ (s : DoorState Stream Stream). s.place) un.held in absurd cc

not_unopened-without_a_fault : Unopened telling before before → ⊥
not_unopened-without_a_fault un = let rose : 1 ≤ 0 = un.failed in absurd (omega (arith, rose))

not_all_served-others_where_the_first_could_not_listen : AllServed telling manner limit [] false (codes "h:1") (before ∷ before ∷ []) (shut ∷ after ∷ []) ([] ∷ [] ∷ []) → ⊥
not_all_served-others_where_the_first_could_not_listen served =
    let e : 1 ≡ 0 = ap (λ (l : List Place). given_at l) (served.0 refl).1 in absurd (omega (arith, e))

-- the core is its history, and a history is legal whose replies are what was asked
abbrev IsEcho : Unit {0} → History → Type 0
IsEcho setup history = AllByRecursion (λ (p : Pair ℕ ℕ). p.reply ≡ p.entry.ask) history

abbrev closed_store : History → List (List ℕ) → Closed History
closed_store core calls = record { core = core; calls = calls }

each_once : IsEachOnce 1 ((1 ∷ []) ∷ [])
each_once zero pos high = absurd (omega arith)
each_once (suc zero) pos high = refl
each_once (suc (suc n)) pos high = absurd (omega arith)

-- what a server with this store did, whose desk was as the first and is as the second
abbrev ClosedAs : Place → Place → Closed History → ℕ → Type 0
ClosedAs old new closed served = ClosedSo telling manner (λ (setup : Unit {0}). limit) (λ (core : History). tt) (λ (core : History). core) IsEcho tt (codes "h:1") (old ∷ []) (new ∷ []) closed served 1

closed-with_one_place : ClosedAs before after (closed_store (history_after lone) ((1 ∷ []) ∷ [])) 1
closed-with_one_place = record {
  set_up = refl;
  legal = (refl, tt);
  listening = true;
  works = (service ∷ []) ∷ [];
  desks = all_served-one_desk;
  calls = refl;
  once = each_once;
  number = refl;
  length_is = refl;
}

not_closed-with_a_place_in_no_list : ClosedAs before after (closed_store (history_after lone) ([] ∷ [])) 1 → ⊥
not_closed-with_a_place_in_no_list closed = let e : 0 ≡ 1 = closed.once 1 (omega arith) (omega arith) in absurd (omega (arith, e))

not_closed-with_an_illegal_history : ClosedAs before after (closed_store (history_after step1) ((1 ∷ []) ∷ [])) 1 → ⊥
not_closed-with_an_illegal_history closed = let e : 0 ≡ 1 = closed.legal.0 in absurd (omega (arith, e))

abbrev summary : ℕ → Bool → Option (Closed History) → Summary History ℕ ℕ
summary count fault closed = record { served = count; entries = count; fault = fault; closed = closed }

abbrev SummarisesAs : List Place → List Place → Summary History ℕ ℕ → Type 0
SummarisesAs olds news s = Summarises telling manner (λ (setup : Unit {0}). limit) (λ (core : History). tt) (λ (core : History). core) IsEcho tt (codes "h:1") olds news s

summarises-one_connection : SummarisesAs (before ∷ []) (after ∷ []) (summary 1 false (Some (closed_store (history_after lone) ((1 ∷ []) ∷ []))))
summarises-one_connection = record {
  none = λ e. absurd (cc e);
  some = λ low. (closed_store (history_after lone) ((1 ∷ []) ∷ []), refl, closed-with_one_place);
  failed = λ e. absurd (cc e);
  well = λ e. (ended_well-after_its_turns, tt);
}

summarises-no_desk : SummarisesAs [] [] (summary 0 false None)
summarises-no_desk = record {
  none = λ e. (refl, refl, refl, refl, refl);
  some = λ low. absurd (omega (arith, low));
  failed = λ e. absurd (cc e);
  well = λ e. tt;
}

not_summarises-a_connection_of_no_desk : SummarisesAs [] [] (summary 1 false None) → ⊥
not_summarises-a_connection_of_no_desk s = let e : 1 ≡ 0 = (s.none refl).0 in absurd (omega (arith, e))

not_ended_well-by_a_fault : EndedWell telling before (desk_at (with_fault before.door)) → ⊥
not_ended_well-by_a_fault (inl e) = absurd cc
not_ended_well-by_a_fault (inr rose) = absurd (omega (arith, rose))

not_summarises-a_fault_that_is_not_told : SummarisesAs (before ∷ []) (desk_at (with_fault before.door) ∷ []) (summary 0 false (Some (closed_store [] ([] ∷ [])))) → ⊥
not_summarises-a_fault_that_is_not_told s = not_ended_well-by_a_fault (s.well refl).0

-- ---- seats

abbrev Sitting : Type 0
Sitting = Seat History Door LinkState (ℕ → Option ℕ) (ℕ → Option Word) ℕ ℕ

module _ (any : Pass History ℕ ℕ) where
  abbrev seat : Place → Bool → Pass History ℕ ℕ → Worked → Sitting
  seat desk listens pass worked = record { desk = desk; pass = pass; listens = listens; worked = worked }

  abbrev nothing_yet : Worked
  nothing_yet = record { served = 0; end = work_end.DoorFault }

  abbrev listening : Place
  listening = desk_at (record before.door { place = codes "h:1" })

  seated-one_desk : seated (before ∷ []) (any ∷ []) ≡ seat before false any nothing_yet ∷ []
  seated-one_desk = refl

  left-at_first : is_left (new_seat before any) ≡ true
  left-at_first = refl

  not_left-after_its_turns : is_left (seat after true any (record { served = 1; end = work_end.Turns })) ≢ true
  not_left-after_its_turns e = absurd cc

  opened-there : Opened telling.state telling.closings telling.door_faults (codes "h:1") (new_seat before any ∷ []) (seat listening true any nothing_yet ∷ [])
  opened-there = (
    record {
      same = record { link = refl; clock = refl; draw = refl; turns = refl; pass = refl; worked = refl };
      later = (omega arith, omega arith);
      opened = inl (refl, refl);
    },
    λ e. tt,
    λ e. absurd (cc e),
  )

  neither : ((false ≡ true) × (told_state before.door ≡ told_state before.door)) ⊎ ((false ≡ false) × (told_state before.door ≡ told_state before.door) × Rose 0 0) → ⊥
  neither (inl opened) = absurd (cc opened.0)
  neither (inr failed) = let rose : 1 ≤ 0 = failed.2 in absurd (omega (arith, rose))

  not_opened-and_not_failed : OpenedSo telling.state telling.closings telling.door_faults (λ door. door) (new_seat before any) (new_seat before any) → ⊥
  not_opened-and_not_failed so = neither so.opened

  seat_served-one_connection : SeatServed telling manner limit (seat listening true (knows any [] []) nothing_yet) (seat after true (knows any (history_after lone) (called_of lone ∷ [])) (record { served = 1; end = work_end.Turns }))
  seat_served-one_connection = record {
    services = service ∷ [];
    number = refl;
    made = record { later = (history_after lone, refl); lie = (([], refl), ([], refl)); calls = refl };
    served = at_desk-one_connection (codes "h:1");
    count = refl;
    bound = omega arith;
    turns = refl;
    place = refl;
    is_listening = refl;
    later = (omega arith, omega arith);
    idle = λ e. absurd (cc e);
    ended = λ e. inr (refl, inl refl);
  }

  not_seat_served-one_that_does_not_listen : SeatServed telling manner limit (seat before false (knows any [] []) nothing_yet) (seat before false (knows any [] []) (record { served = 1; end = work_end.Turns })) → ⊥
  not_seat_served-one_that_does_not_listen s = let e : 1 ≡ 0 = s.count ∙ ap (λ (l : List (Service Stream Stream ℕ ℕ)). length l) (s.idle refl).1 in absurd (omega (arith, e))

  not_seats_served-one_seat_too_few : SeatsServed telling manner limit (new_seat before any ∷ []) [] → ⊥
  not_seats_served-one_seat_too_few is = is
