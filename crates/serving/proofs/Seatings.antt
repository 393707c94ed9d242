-- Seats, one by one: the effect of opening their doors, and of serving there, on the desk.
use Rattle.std.proofs.Common.{◌≡◌, ◌⊎◌, ℕ, suc, ◌+◌, ◌*◌, ◌^◌, ◌<◌, ◌≤◌, Bool, true, false, List, [], ◌∷◌, ◌++◌, map, length, Option, ap, sym, subst, ◌∙◌, refl, inl, inr, arith}
use Rattle.std.specs.Prelude.{option_map, slice_index_or}
use Rattle.sso_base.specs.Faults.{Rose}
use Rattle.sso_base.specs.Words.{Text}
use Rattle.sso_base.specs.declared.history.Pair.{Pair}
use Rattle.server_desk.specs.Ahead.{MovedOn}
use Rattle.server_desk.specs.Doors.{DoorState}
use Rattle.server_desk.specs.declared.desk.Desk.{Desk}
use Rattle.turn_store.specs.declared.store.Pass.{Pass}
use Rattle.turn_store.specs.Places.{Begins, places_of}
use Rattle.turn_store.specs.Passes.{number_of, front_of, calls_of, HasDoneNothing}
use Rattle.serving.specs.declared.seats.Seat.{Seat}
use Rattle.serving.specs.declared.work.Worked.{Worked}
use Rattle.serving.specs.declared.work.WorkEnd.TheVariants.{DoorFault}
use Rattle.serving.specs.LinkCalls.{TookCalls}
use Rattle.serving.specs.Manner.{Manner}
use Rattle.serving.specs.Steps.{called_of}
use Rattle.serving.specs.Summaries.{Telling, ServedAt, Failed, EndedWell, DeskServed, places_in}
use Rattle.serving.specs.Seating.{new_seat, is_fault, is_left, OpenedSo, SeatServed, SeatsServed}
use Rattle.serving.specs.Working.{Service, steps_in, calls_in, readings_in, DrawnIn}
use Rattle.serving.proofs.Histories.{lie_on, lie_at_all}
use Rattle.serving.proofs.LinkEnds.{rose_by_some}
use Rattle.serving.proofs.Workers.{at_desk_none, made_none, serves_all_on}

-- ---- counts

rose_before : (a b c : ℕ) → a ≤ b → Rose b c → Rose a c
rose_before a b c low rose = omega arith

pub rose_after : (a b c : ℕ) → Rose a b → b ≤ c → Rose a c
rose_after a b c rose high = omega arith

pub unlike : {X : Type 0} (b : Bool) → b ≡ true → b ≡ false → X
unlike b on off = let e : true ≡ false = sym on ∙ off in absurd (cc e)

-- ---- an opened door

module _ {S K : Type 0} where
  -- a door that listens at a place that depends on the one before
  abbrev pub placed : (Option Text → Option Text) → DoorState S K → DoorState S K
  placed at door = record door { place = at door.place }

  kept : {X : Type 0} (f : DoorState S K → X) (at : Option Text → Option Text) (old new : DoorState S K) (l : Bool) (F : Type 0)
      → ((s : DoorState S K) → f (placed at s) ≡ f s) → ((l ≡ true) × (new ≡ placed at old)) ⊎ ((l ≡ false) × (new ≡ old) × F) → f new ≡ f old
  kept f at old new l F same (inl x) = ap f x.1 ∙ same old
  kept f at old new l F same (inr x) = ap f x.1

  there_or : (at : Option Text → Option Text) (old new : DoorState S K) (l : Bool) (F : Type 0)
      → ((l ≡ true) × (new ≡ placed at old)) ⊎ ((l ≡ false) × (new ≡ old) × F) → ((l ≡ true) × (new.place ≡ at old.place)) ⊎ F
  there_or at old new l F (inl x) = inl (x.0, ap (λ (s : DoorState S K). s.place) x.1)
  there_or at old new l F (inr x) = inr x.2

module _ {O A R D L C W S K : Type 0} (t : Telling D L C W S K) where
  -- what is known of an opened seat, by the desk and the pass that it was dealt
  pub record OpenedAs (listening : Bool) (at : Option Text → Option Text) (desk : Desk D L C W) (pass : Pass O A R) (mid : Seat O D L C W A R) : Type 0 where
    pub link : mid.desk.tools.link ≡ desk.tools.link
    pub clock : mid.desk.tools.clock ≡ desk.tools.clock
    pub draw : mid.desk.tools.draw ≡ desk.tools.draw
    pub turns : mid.desk.turns ≡ desk.turns
    pub pass_is : mid.pass ≡ pass
    pub worked : mid.worked ≡ record { served = 0; end = DoorFault }
    pub coming : (t.state mid.desk.door).coming ≡ (t.state desk.door).coming
    pub served : (t.state mid.desk.door).served ≡ (t.state desk.door).served
    pub given : (t.state mid.desk.door).given ≡ (t.state desk.door).given
    pub later : (t.closings desk.door ≤ t.closings mid.desk.door) × (t.door_faults desk.door ≤ t.door_faults mid.desk.door)
    pub opened : listening ≡ true → ((mid.listens ≡ true) × ((t.state mid.desk.door).place ≡ at (t.state desk.door).place)) ⊎ Rose (t.door_faults desk.door) (t.door_faults mid.desk.door)
    pub shut : listening ≡ false → mid.listens ≡ false

  pub opened_as : (listening : Bool) (at : Option Text → Option Text) (desk : Desk D L C W) (pass : Pass O A R) (mid : Seat O D L C W A R)
      → (listening ≡ false → mid.listens ≡ false) → OpenedSo t.state t.closings t.door_faults (λ door. placed at door) (new_seat desk pass) mid → OpenedAs listening at desk pass mid
  opened_as listening at desk pass mid shut o =
      let old = t.state desk.door in let new = t.state mid.desk.door in
      let F : Type 0 = Rose (t.door_faults desk.door) (t.door_faults mid.desk.door) in
      record {
        link = o.same.link;
        clock = o.same.clock;
        draw = o.same.draw;
        turns = o.same.turns;
        pass_is = o.same.pass;
        worked = o.same.worked;
        coming = kept (λ (s : DoorState S K). s.coming) at old new mid.listens F (λ s. refl) o.opened;
        served = kept (λ (s : DoorState S K). s.served) at old new mid.listens F (λ s. refl) o.opened;
        given = kept (λ (s : DoorState S K). s.given) at old new mid.listens F (λ s. refl) o.opened;
        later = o.later;
        opened = λ on. there_or at old new mid.listens F o.opened;
        shut = shut;
      }

  -- a seat that nobody opened
  pub left_as : (listening : Bool) (at : Option Text → Option Text) (desk : Desk D L C W) (pass : Pass O A R) → listening ≡ false → OpenedAs listening at desk pass (new_seat desk pass)
  left_as listening at desk pass off = record {
    link = refl;
    clock = refl;
    draw = refl;
    turns = refl;
    pass_is = refl;
    worked = refl;
    coming = refl;
    served = refl;
    given = refl;
    later = (omega arith, omega arith);
    opened = λ on. unlike listening on off;
    shut = λ _. refl;
  }

  -- ---- what may be served

  abbrev pub Ready : (Pass O A R → Type 0) → Seat O D L C W A R → Type 0
  Ready P seat = P seat.pass × ((t.state seat.desk.door).given < 2 ^ 63) × (seat.desk.turns ≤ 2 ^ 56) × (seat.worked.served ≡ 0)

  pub ready_on : (P : Pass O A R → Type 0) (at : Option Text → Option Text) (old new : Seat O D L C W A R) → OpenedSo t.state t.closings t.door_faults (λ door. placed at door) old new → Ready P old → Ready P new
  ready_on P at old new o r =
      let same : (t.state new.desk.door).given ≡ (t.state old.desk.door).given =
      kept (λ (s : DoorState S K). s.given) at (t.state old.desk.door) (t.state new.desk.door) new.listens (Rose (t.door_faults old.desk.door) (t.door_faults new.desk.door)) (λ s. refl) o.opened in
      let turns : new.desk.turns ≡ old.desk.turns = o.same.turns in
      let given_before : (t.state old.desk.door).given < 2 ^ 63 = r.1 in let turns_before : old.desk.turns ≤ 2 ^ 56 = r.2 in
      (subst P (sym o.same.pass) r.0, omega arith, omega arith, ap (λ (w : Worked). w.served) o.same.worked ∙ r.3)

  module _ (m : Manner A R) (most : ℕ) where
    -- if the door does not listen, nothing is done
    pub seat_idle : (seat : Seat O D L C W A R) → seat.listens ≡ false → seat.worked.served ≡ 0 → SeatServed t m most seat seat
    seat_idle seat shut none = record {
      services = [];
      number = refl;
      made = made_none seat.pass;
      served = at_desk_none m most t.left t.read_faults t.taken t.write_faults (front_of seat.pass) (t.link_state seat.desk.tools.link) (t.moments seat.desk.tools.clock) (t.words seat.desk.tools.draw) (t.state seat.desk.door);
      count = none;
      bound = omega arith;
      turns = refl;
      place = refl;
      is_listening = refl;
      later = (omega arith, omega arith);
      idle = λ _. (refl, refl);
      ended = λ on. unlike seat.listens on shut;
    }

    -- each seat was served, one by one
    pub seats_served : (xs ys : List (Seat O D L C W A R)) → length ys ≡ length xs
        → ((i : ℕ) (d : Seat O D L C W A R) → i < length xs → SeatServed t m most (slice_index_or xs i d) (slice_index_or ys i d)) → SeatsServed t m most xs ys
    seats_served [] [] e h = tt
    seats_served [] (y ∷ ys) e h = absurd (omega arith)
    seats_served (x ∷ xs) [] e h = absurd (omega arith)
    seats_served (x ∷ xs) (y ∷ ys) e h = (h 0 x (omega arith), seats_served xs ys (omega arith) (λ i d lt. h (suc i) d (omega arith)))

    -- what a call left of a seat
    pub seat_left : (x y argument after_call : Seat O D L C W A R) → argument ≡ x → after_call ≡ y → SeatServed t m most argument after_call → SeatServed t m most x y
    seat_left x y argument after_call e f h = subst (λ (s : Seat O D L C W A R). SeatServed t m most s y) e (subst (λ (s : Seat O D L C W A R). SeatServed t m most argument s) f h)

    -- ---- one seat, from its desk before the doors were opened

    module _ (listening : Bool) (at : Option Text → Option Text) (desk : Desk D L C W) (pass : Pass O A R) (mid new : Seat O D L C W A R) (o : OpenedAs listening at desk pass mid) (s : SeatServed t m most mid new) where
      -- its door failed while it was opened, or while it was served
      failed_early : Rose (t.door_faults desk.door) (t.door_faults mid.desk.door) → Failed t desk new.desk
      failed_early r = rose_after (t.door_faults desk.door) (t.door_faults mid.desk.door) (t.door_faults new.desk.door) r s.later.1

      failed_late : Failed t mid.desk new.desk → Failed t desk new.desk
      failed_late r = rose_before (t.door_faults desk.door) (t.door_faults mid.desk.door) (t.door_faults new.desk.door) o.later.1 r

      well_late : EndedWell t mid.desk new.desk → EndedWell t desk new.desk
      well_late (inl e) = inl (e ∙ (λ i. o.given i + o.turns i))
      well_late (inr r) = inr (rose_before (t.closings desk.door) (t.closings mid.desk.door) (t.closings new.desk.door) o.later.0 r)

      worked_as : ((new.worked.end ≡ DoorFault) × Failed t mid.desk new.desk) ⊎ ((is_fault new.worked.end ≡ false) × EndedWell t mid.desk new.desk) → EndedWell t desk new.desk ⊎ Failed t desk new.desk
      worked_as (inl f) = inr (failed_late f.1)
      worked_as (inr w) = inl (well_late w.1)

      ended_as : ((mid.listens ≡ true) × ((t.state mid.desk.door).place ≡ at (t.state desk.door).place)) ⊎ Rose (t.door_faults desk.door) (t.door_faults mid.desk.door) → EndedWell t desk new.desk ⊎ Failed t desk new.desk
      ended_as (inl x) = worked_as (s.ended x.0)
      ended_as (inr r) = inr (failed_early r)

      place_as : ((mid.listens ≡ true) × ((t.state mid.desk.door).place ≡ at (t.state desk.door).place)) ⊎ Rose (t.door_faults desk.door) (t.door_faults mid.desk.door) → ((t.state new.desk.door).place ≡ at (t.state desk.door).place) ⊎ Failed t desk new.desk
      place_as (inl x) = inl (s.place ∙ x.1)
      place_as (inr r) = inr (failed_early r)

      served_as : (history : List (Pair A R)) → Begins (front_of new.pass) history → ServedAt t m most history desk new.desk s.services
      served_as history b =
          let a = s.served in
          let all = serves_all_on m most t.left t.read_faults t.taken t.write_faults (front_of new.pass) history b s.services a.served in
          let sent : TookCalls (t.link_state desk.tools.link) (t.link_state new.desk.tools.link) (calls_in s.services) = subst (λ (l : L). TookCalls (t.link_state l) (t.link_state new.desk.tools.link) (calls_in s.services)) o.link a.sent in
          record {
            passed = record {
              coming = sym o.coming ∙ a.passed.coming;
              served = a.passed.served ∙ ap (λ l. option_map (λ before. before ++ map (λ (x : Service S K A R). x.went) s.services) l) o.served;
              given = a.passed.given ∙ ap (λ (n : ℕ). n + length s.services) o.given;
            };
            sent = sent;
            drawn = subst (λ (x : C). DrawnIn (t.moments x) (t.words desk.tools.draw) 0 s.services) o.clock (subst (λ (x : W). DrawnIn (t.moments mid.desk.tools.clock) (t.words x) 0 s.services) o.draw a.drawn);
            clock = subst (λ (x : C). MovedOn (t.moments x) (t.moments new.desk.tools.clock) (readings_in s.services)) o.clock a.clock;
            draw = subst (λ (x : W). MovedOn (t.words x) (t.words new.desk.tools.draw) (4 * readings_in s.services)) o.draw a.draw;
            served = all;
            failed = rose_by_some m most t.left t.read_faults t.taken t.write_faults history s.services (t.link_state desk.tools.link) (t.link_state new.desk.tools.link) sent all;
          }

      pub desk_served : (history : List (Pair A R)) → Begins (front_of new.pass) history → DeskServed t m most history listening at desk new.desk s.services
      desk_served history b = record {
        served = served_as history b;
        order = lie_on [] (front_of new.pass) history b (steps_in s.services) (lie_at_all (front_of mid.pass) (front_of new.pass) (steps_in s.services) s.made.lie);
        turns = s.turns ∙ o.turns;
        ended = λ on. ended_as (o.opened on);
        idle = λ off. (s.idle (o.shut off)).1;
        place = λ on. place_as (o.opened on);
      }

      fault_is : ((new.worked.end ≡ DoorFault) × Failed t mid.desk new.desk) ⊎ ((is_fault new.worked.end ≡ false) × EndedWell t mid.desk new.desk) → is_left new ≡ true → Failed t desk new.desk
      fault_is (inl f) left = failed_late f.1
      fault_is (inr w) left = unlike (is_fault new.worked.end) left w.0

      fault_or : ((mid.listens ≡ true) × ((t.state mid.desk.door).place ≡ at (t.state desk.door).place)) ⊎ Rose (t.door_faults desk.door) (t.door_faults mid.desk.door) → is_left new ≡ true → Failed t desk new.desk
      fault_or (inl x) left = fault_is (s.ended x.0) left
      fault_or (inr r) left = failed_early r

      -- a seat that was left because of its door
      pub seat_failed : listening ≡ true → is_left new ≡ true → Failed t desk new.desk
      seat_failed on left = fault_or (o.opened on) left

      well_is : ((new.worked.end ≡ DoorFault) × Failed t mid.desk new.desk) ⊎ ((is_fault new.worked.end ≡ false) × EndedWell t mid.desk new.desk) → is_left new ≡ false → EndedWell t desk new.desk
      well_is (inl f) stays = unlike (is_fault new.worked.end) (ap is_fault f.0) stays
      well_is (inr w) stays = well_late w.1

      well_or : (b : Bool) → mid.listens ≡ b → is_left new ≡ false → EndedWell t desk new.desk
      well_or true on stays = well_is (s.ended on) stays
      well_or false off stays = unlike (is_fault new.worked.end) (ap (λ (x : Seat O D L C W A R). is_fault x.worked.end) (s.idle off).0 ∙ ap (λ (w : Worked). is_fault w.end) o.worked) stays

      -- a seat that was not
      pub seat_well : is_left new ≡ false → EndedWell t desk new.desk
      seat_well stays = well_or mid.listens refl stays

      -- its pass made the calls of its steps
      pub seat_calls : HasDoneNothing pass → places_of (calls_of new.pass) ≡ places_in s.services
      seat_calls fresh = ap (λ calls. places_of calls) (s.made.calls ∙ ap (λ calls. calls ++ map called_of (steps_in s.services)) (ap (λ (p : Pass O A R). calls_of p) o.pass_is ∙ fresh.calls))

      pub seat_number : number_of new.pass ≡ number_of pass
      seat_number = s.number ∙ ap (λ (p : Pass O A R). number_of p) o.pass_is

      pub seat_bound : desk.turns ≤ 2 ^ 56 → new.worked.served ≤ 2 ^ 56
      seat_bound few = let b = s.bound in let turns : mid.desk.turns ≡ desk.turns = o.turns in omega arith
