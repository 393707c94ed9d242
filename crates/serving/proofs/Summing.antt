-- What the seats of a server did, put together.
use Rattle.std.proofs.Common.{◌≡◌, ◌⊎◌, ℕ, suc, zero, ◌+◌, ◌^◌, ◌<◌, ◌≤◌, Bool, true, false, List, [], ◌∷◌, ◌++◌, map, length, Option, Some, take, drop, ap, sym, subst, ◌∙◌, refl, inl, inr, ⊎_elim, ◌||◌, arith}
use Rattle.std.specs.Prelude.{option_map}
use Rattle.std.specs.List.{All, AllByRecursion, sum_by, list_any}
use Rattle.std.proofs.lemmas.List.Sums.{sum_by-cons}
use Rattle.sso_base.specs.Words.{Text}
use Rattle.sso_base.specs.declared.history.Pair.{Pair}
use Rattle.server_desk.specs.Doors.{DoorState, shared}
use Rattle.server_desk.specs.declared.desk.Desk.{Desk}
use Rattle.turn_store.specs.declared.calls.Closed.{Closed}
use Rattle.turn_store.specs.declared.store.Pass.{Pass}
use Rattle.turn_store.specs.Places.{Begins, IsEachOnce, places_of}
use Rattle.turn_store.specs.Passes.{number_of, front_of, calls_of, HasDoneNothing}
use Rattle.turn_store.proofs.Ending.{all_by, by_all}
use Rattle.serving.specs.declared.seats.Seat.{Seat}
use Rattle.serving.specs.Manner.{Manner}
use Rattle.serving.specs.Summaries.{Telling, Unopened, DesksServed, AllServed, SomeFailed, AllEndedWell, SummarisesDesks, places_in}
use Rattle.serving.specs.Seating.{new_seat, seated, is_left, OpenedSo, AllOpened, Opened, SeatServed, SeatsServed, OpenedAndServed}
use Rattle.serving.specs.Working.{Service}
use Rattle.serving.proofs.Seatings.{rose_after, placed, OpenedAs, opened_as, left_as, Ready, ready_on, unlike, desk_served, seat_failed, seat_well, seat_calls, seat_number, seat_bound}

-- ---- lists

both_sums : {a b c d : ℕ} → a ≡ b → c ≡ d → a + c ≡ b + d
both_sums x y = λ i. x i + y i

-- of two tests one was met, or none
one_is : (a b : Bool) → (a || b) ≡ true → (a ≡ true) ⊎ (b ≡ true)
one_is true b h = inl refl
one_is false b h = inr h

none_is : (a b : Bool) → (a || b) ≡ false → (a ≡ false) × (b ≡ false)
none_is true b h = absurd (cc h)
none_is false b h = (refl, h)

pub same_list : {X : Type 0} (a b c : List X) → a ≡ b → b ≡ c → a ≡ c
same_list a b c e f = e ∙ f

-- a list was written over, all of it
pub whole_list : {X : Type 0} (n : ℕ) (new old : List X) → length old ≡ n → length new ≡ n → take n (new ++ drop (length new) old) ≡ new
whole_list n [] [] e f = rw (sym f) refl
whole_list n [] (y ∷ ys) e f = absurd (omega arith)
whole_list zero (x ∷ xs) old e f = absurd (omega arith)
whole_list (suc n) (x ∷ xs) [] e f = absurd (omega arith)
whole_list (suc n) (x ∷ xs) (y ∷ ys) e f = ap (λ l. x ∷ l) (whole_list n xs ys (omega arith) (omega arith))

module _ {O A R D L C W : Type 0} where
  -- what holds of the seats' passes holds of the passes
  passes_all : (P : Pass O A R → Type 0) (seats : List (Seat O D L C W A R)) → AllByRecursion (λ (s : Seat O D L C W A R). P s.pass) seats → AllByRecursion P (map (λ (s : Seat O D L C W A R). s.pass) seats)
  passes_all P [] h = tt
  passes_all P (s ∷ seats) h = (h.0, passes_all P seats h.1)

  -- the passes that were given back
  pub passes_same : (passes : List (Pass O A R)) (seats news : List (Seat O D L C W A R)) → passes ≡ map (λ (s : Seat O D L C W A R). s.pass) seats → seats ≡ news → passes ≡ map (λ (s : Seat O D L C W A R). s.pass) news
  passes_same passes seats news e f = e ∙ ap (λ (l : List (Seat O D L C W A R)). map (λ (s : Seat O D L C W A R). s.pass) l) f

  pub passes_back : (P : Pass O A R → Type 0) (passes : List (Pass O A R)) (news : List (Seat O D L C W A R)) → passes ≡ map (λ (s : Seat O D L C W A R). s.pass) news → All (λ (s : Seat O D L C W A R). P s.pass) news → All P passes
  passes_back P passes news e h =
      subst (λ (l : List (Pass O A R)). All P l) (sym e)
      (by_all P (map (λ (s : Seat O D L C W A R). s.pass) news) (passes_all P news (all_by (λ (s : Seat O D L C W A R). P s.pass) news h)))

  pub seated_length : (ds : List (Desk D L C W)) (ps : List (Pass O A R)) → length ps ≡ length ds → length (seated ds ps) ≡ length ds
  seated_length [] ps e = refl
  seated_length (d ∷ ds) [] e = absurd (omega arith)
  seated_length (d ∷ ds) (p ∷ ps) e = ap suc (seated_length ds ps (omega arith))

-- a door that could not listen
door_failed : {F G H : Type 0} (l : Bool) → l ≡ false → ((l ≡ true) × F) ⊎ ((l ≡ false) × G × H) → G × H
door_failed l off (inl x) = unlike l x.0 off
door_failed l off (inr x) = (x.1, x.2)

-- one seat, from its desk and its pass to the end
pub record Row {A R D L C W S K : Type 0} (O : Type 0) (t : Telling D L C W S K) (m : Manner A R) (most : ℕ) (listening : Bool) (at : Option Text → Option Text) : Type 0 where
  pub desk : Desk D L C W
  pub pass : Pass O A R
  pub mid : Seat O D L C W A R
  pub new : Seat O D L C W A R
  pub opened : OpenedAs t listening at desk pass mid
  pub served : SeatServed t m most mid new

module _ {O A R D L C W S K : Type 0} (t : Telling D L C W S K) where
  -- ---- what may be served

  module _ (P : Pass O A R → Type 0) where
    ready_all : (first : DoorState S K) (olds news : List (Seat O D L C W A R)) → AllOpened t.state t.closings t.door_faults (λ door. shared door first) olds news → AllByRecursion (Ready t P) olds → AllByRecursion (Ready t P) news
    ready_all first [] [] o r = tt
    ready_all first [] (n ∷ ns) o r = absurd o
    ready_all first (s ∷ ss) [] o r = absurd o
    ready_all first (s ∷ ss) (n ∷ ns) o r = (ready_on t P (λ before. first.place) s n o.0 r.0, ready_all first ss ns o.1 r.1)

    ready_others : (b : Bool) (first : DoorState S K) (olds news : List (Seat O D L C W A R)) → (b ≡ true → AllOpened t.state t.closings t.door_faults (λ door. shared door first) olds news) → (b ≡ false → news ≡ olds)
        → AllByRecursion (Ready t P) olds → AllByRecursion (Ready t P) news
    ready_others true first olds news o e r = ready_all first olds news (o refl) r
    ready_others false first olds news o e r = subst (λ l. AllByRecursion (Ready t P) l) (sym (e refl)) r

    -- opening the doors changes nothing of that
    pub ready_opened : (place : Text) (olds news : List (Seat O D L C W A R)) → Opened t.state t.closings t.door_faults place olds news → AllByRecursion (Ready t P) olds → AllByRecursion (Ready t P) news
    ready_opened place [] [] o r = absurd o
    ready_opened place [] (n ∷ ns) o r = absurd o
    ready_opened place (s ∷ ss) [] o r = absurd o
    ready_opened place (s ∷ ss) (n ∷ ns) o r = (ready_on t P (λ before. option_map (λ p. place) before) s n o.0 r.0, ready_others n.listens (t.state n.desk.door) ss ns o.1 o.2 r.1)

    -- nobody served at these seats yet
    pub ready_seated : (ds : List (Desk D L C W)) (ps : List (Pass O A R)) → AllByRecursion (λ (d : Desk D L C W). (d.turns ≤ 2 ^ 56) × ((t.state d.door).given < 2 ^ 63)) ds → AllByRecursion P ps → AllByRecursion (Ready t P) (seated ds ps)
    ready_seated [] ps h k = tt
    ready_seated (d ∷ ds) [] h k = tt
    ready_seated (d ∷ ds) (p ∷ ps) h k = ((k.0, h.0.1, h.0.0, refl), ready_seated ds ps h.1 k.1)

  module _ (m : Manner A R) (most : ℕ) where
    -- the seats behind the first
    pub record Others (listening : Bool) (to : Option Text) (ds : List (Desk D L C W)) (ps : List (Pass O A R)) (news : List (Seat O D L C W A R)) : Type 0 where
      pub rows : List (Row O t m most listening (λ before. to))
      pub desks_are : ds ≡ map (λ (r : Row O t m most listening (λ before. to)). r.desk) rows
      pub passes_are : ps ≡ map (λ (r : Row O t m most listening (λ before. to)). r.pass) rows
      pub seats_are : news ≡ map (λ (r : Row O t m most listening (λ before. to)). r.new) rows
      pub left : listening ≡ false → map (λ (s : Seat O D L C W A R). s.desk) news ≡ ds

    no_others : (listening : Bool) (to : Option Text) → Others listening to [] [] []
    no_others listening to = record { rows = []; desks_are = refl; passes_are = refl; seats_are = refl; left = λ off. refl }

    one_more : (listening : Bool) (to : Option Text) (d : Desk D L C W) (ds : List (Desk D L C W)) (p : Pass O A R) (ps : List (Pass O A R)) (mid new : Seat O D L C W A R) (news : List (Seat O D L C W A R))
        → OpenedAs t listening (λ before. to) d p mid → SeatServed t m most mid new → (listening ≡ false → new.desk ≡ d) → Others listening to ds ps news → Others listening to (d ∷ ds) (p ∷ ps) (new ∷ news)
    one_more listening to d ds p ps mid new news o s same rest =
        let row : Row O t m most listening (λ before. to) = record { desk = d; pass = p; mid = mid; new = new; opened = o; served = s } in
        record {
          rows = row ∷ rest.rows;
          desks_are = ap (λ l. d ∷ l) rest.desks_are;
          passes_are = ap (λ l. p ∷ l) rest.passes_are;
          seats_are = ap (λ l. new ∷ l) rest.seats_are;
          left = λ off. λ i. same off i ∷ rest.left off i;
        }

    others_opened : (first : DoorState S K) (to : Option Text) → first.place ≡ to → (ds : List (Desk D L C W)) (ps : List (Pass O A R)) (mids news : List (Seat O D L C W A R)) → length ps ≡ length ds
        → AllOpened t.state t.closings t.door_faults (λ door. shared door first) (seated ds ps) mids → SeatsServed t m most mids news → Others true to ds ps news
    others_opened first to e [] (p ∷ ps) mids news l o s = absurd (omega arith)
    others_opened first to e (d ∷ ds) [] mids news l o s = absurd (omega arith)
    others_opened first to e [] [] (x ∷ xs) news l o s = absurd o
    others_opened first to e [] [] [] (n ∷ ns) l o s = absurd s
    others_opened first to e [] [] [] [] l o s = no_others true to
    others_opened first to e (d ∷ ds) (p ∷ ps) [] news l o s = absurd o
    others_opened first to e (d ∷ ds) (p ∷ ps) (x ∷ xs) [] l o s = absurd s
    others_opened first to e (d ∷ ds) (p ∷ ps) (x ∷ xs) (n ∷ ns) l o s =
        one_more true to d ds p ps x n ns
        (subst (λ (q : Option Text). OpenedAs t true (λ before. q) d p x) e (opened_as t true (λ before. first.place) d p x (λ off. unlike true refl off) o.0))
        s.0
        (λ off. unlike true refl off)
        (others_opened first to e ds ps xs ns (omega arith) o.1 s.1)

    others_left : (to : Option Text) (ds : List (Desk D L C W)) (ps : List (Pass O A R)) (news : List (Seat O D L C W A R)) → length ps ≡ length ds → SeatsServed t m most (seated ds ps) news → Others false to ds ps news
    others_left to [] (p ∷ ps) news l s = absurd (omega arith)
    others_left to (d ∷ ds) [] news l s = absurd (omega arith)
    others_left to [] [] (n ∷ ns) l s = absurd s
    others_left to [] [] [] l s = no_others false to
    others_left to (d ∷ ds) (p ∷ ps) [] l s = absurd s
    others_left to (d ∷ ds) (p ∷ ps) (n ∷ ns) l s = one_more false to d ds p ps (new_seat d p) n ns (left_as t false (λ before. to) d p refl) s.0 (λ off. ap (λ (x : Seat O D L C W A R). x.desk) (s.0.idle refl).0) (others_left to ds ps ns (omega arith) s.1)

    others_of : (b : Bool) (first : DoorState S K) (to : Option Text) → first.place ≡ to → (ds : List (Desk D L C W)) (ps : List (Pass O A R)) (mids news : List (Seat O D L C W A R)) → length ps ≡ length ds
        → (b ≡ true → AllOpened t.state t.closings t.door_faults (λ door. shared door first) (seated ds ps) mids) → (b ≡ false → mids ≡ seated ds ps) → SeatsServed t m most mids news → Others b to ds ps news
    others_of true first to e ds ps mids news l o k s = others_opened first to e ds ps mids news l (o refl) s
    others_of false first to e ds ps mids news l o k s = others_left to ds ps news l (subst (λ (x : List (Seat O D L C W A R)). SeatsServed t m most x news) (k refl) s)

    -- all seats
    pub record Whole (place : Text) (ds : List (Desk D L C W)) (ps : List (Pass O A R)) (news : List (Seat O D L C W A R)) : Type 0 where
      pub listening : Bool
      pub first : Row O t m most listening (λ before. option_map (λ p. place) before)
      pub shut : listening ≡ false → Unopened t first.desk first.new.desk
      pub others : List (Row O t m most listening (λ before. (t.state first.new.desk.door).place))
      pub desks_are : ds ≡ first.desk ∷ map (λ (r : Row O t m most listening (λ before. (t.state first.new.desk.door).place)). r.desk) others
      pub passes_are : ps ≡ first.pass ∷ map (λ (r : Row O t m most listening (λ before. (t.state first.new.desk.door).place)). r.pass) others
      pub seats_are : news ≡ first.new ∷ map (λ (r : Row O t m most listening (λ before. (t.state first.new.desk.door).place)). r.new) others
      pub left : listening ≡ false → map (λ (s : Seat O D L C W A R). s.desk) (map (λ (r : Row O t m most listening (λ before. (t.state first.new.desk.door).place)). r.new) others) ≡ map (λ (r : Row O t m most listening (λ before. (t.state first.new.desk.door).place)). r.desk) others

    first_shut : (d : Desk D L C W) (p : Pass O A R) (mid new : Seat O D L C W A R) (so : DoorState S K → DoorState S K) → mid.listens ≡ false → OpenedSo t.state t.closings t.door_faults so (new_seat d p) mid → SeatServed t m most mid new → Unopened t d new.desk
    first_shut d p mid new so off o s =
        let shut = door_failed mid.listens off o.opened in
        let still = (s.idle off).0 in
        let as_was : mid.desk ≡ record d { door = mid.desk.door } =
        λ i. record { door = mid.desk.door; tools = record { link = o.same.link i; clock = o.same.clock i; draw = o.same.draw i }; turns = o.same.turns i } in
        record {
          failed = rose_after (t.door_faults d.door) (t.door_faults mid.desk.door) (t.door_faults new.desk.door) shut.1 s.later.1;
          held = ap (λ (x : Seat O D L C W A R). t.state x.desk.door) still ∙ shut.0;
          same = ap (λ (x : Seat O D L C W A R). x.desk) still ∙ as_was ∙ ap (λ (x : Seat O D L C W A R). record d { door = x.desk.door }) (sym still);
        }

    whole_of : (place : Text) (ds : List (Desk D L C W)) (ps : List (Pass O A R)) (d : Desk D L C W) (p : Pass O A R) (mid new : Seat O D L C W A R) (news : List (Seat O D L C W A R))
        → OpenedSo t.state t.closings t.door_faults (λ door. placed (λ before. option_map (λ q. place) before) door) (new_seat d p) mid → SeatServed t m most mid new
        → Others mid.listens (t.state new.desk.door).place ds ps news → Whole place (d ∷ ds) (p ∷ ps) (new ∷ news)
    whole_of place ds ps d p mid new news o s rest =
        let as_opened = opened_as t mid.listens (λ before. option_map (λ q. place) before) d p mid (λ off. off) o in
        record {
          listening = mid.listens;
          first = record { desk = d; pass = p; mid = mid; new = new; opened = as_opened; served = s };
          shut = λ off. first_shut d p mid new (λ door. placed (λ before. option_map (λ q. place) before) door) off o s;
          others = rest.rows;
          desks_are = ap (λ l. d ∷ l) rest.desks_are;
          passes_are = ap (λ l. p ∷ l) rest.passes_are;
          seats_are = ap (λ l. new ∷ l) rest.seats_are;
          left = λ off. sym (ap (λ (l : List (Seat O D L C W A R)). map (λ (s : Seat O D L C W A R). s.desk) l) rest.seats_are) ∙ rest.left off ∙ rest.desks_are;
        }

    -- the doors were opened, and then all was served
    pub whole : (place : Text) (ds : List (Desk D L C W)) (ps : List (Pass O A R)) (mids news : List (Seat O D L C W A R)) → length ps ≡ length ds
        → Opened t.state t.closings t.door_faults place (seated ds ps) mids → SeatsServed t m most mids news → Whole place ds ps news
    whole place [] ps [] news l o s = absurd o
    whole place [] ps (x ∷ xs) news l o s = absurd o
    whole place (d ∷ ds) [] mids news l o s = absurd (omega arith)
    whole place (d ∷ ds) (p ∷ ps) [] news l o s = absurd o
    whole place (d ∷ ds) (p ∷ ps) (x ∷ xs) [] l o s = absurd s
    whole place (d ∷ ds) (p ∷ ps) (x ∷ xs) (n ∷ ns) l o s =
        whole_of place ds ps d p x n ns o.0 s.0 (others_of x.listens (t.state x.desk.door) (t.state n.desk.door).place (sym s.0.place) ds ps xs ns (omega arith) o.1 o.2 s.1)

    pub whole_from : (place : Text) (ds : List (Desk D L C W)) (ps : List (Pass O A R)) (olds news : List (Seat O D L C W A R)) → length ps ≡ length ds → olds ≡ seated ds ps → OpenedAndServed t m most place olds news → Whole place ds ps news
    whole_from place ds ps olds news l e o = whole place ds ps o.0 news l (subst (λ (x : List (Seat O D L C W A R)). Opened t.state t.closings t.door_faults place x o.0) e o.1) o.2

    -- ---- what follows for the seats in a row

    module _ (listening : Bool) (at : Option Text → Option Text) where
      rows_served : (history : List (Pair A R)) (rows : List (Row O t m most listening at)) → AllByRecursion (λ (p : Pass O A R). Begins (front_of p) history) (map (λ (s : Seat O D L C W A R). s.pass) (map (λ (r : Row O t m most listening at). r.new) rows))
          → DesksServed t m most history listening at (map (λ (r : Row O t m most listening at). r.desk) rows) (map (λ (s : Seat O D L C W A R). s.desk) (map (λ (r : Row O t m most listening at). r.new) rows)) (map (λ (r : Row O t m most listening at). r.served.services) rows)
      rows_served history [] b = tt
      rows_served history (r ∷ rs) b = (desk_served t m most listening at r.desk r.pass r.mid r.new r.opened r.served history b.0, rows_served history rs b.1)

      rows_calls : (rows : List (Row O t m most listening at)) → AllByRecursion (λ (p : Pass O A R). HasDoneNothing p) (map (λ (r : Row O t m most listening at). r.pass) rows)
          → map (λ (p : Pass O A R). places_of (calls_of p)) (map (λ (s : Seat O D L C W A R). s.pass) (map (λ (r : Row O t m most listening at). r.new) rows)) ≡ map (λ (services : List (Service S K A R)). places_in services) (map (λ (r : Row O t m most listening at). r.served.services) rows)
      rows_calls [] f = refl
      rows_calls (r ∷ rs) f = λ i. seat_calls t m most listening at r.desk r.pass r.mid r.new r.opened r.served f.0 i ∷ rows_calls rs f.1 i

      rows_sum : (rows : List (Row O t m most listening at)) → sum_by (λ (s : Seat O D L C W A R). s.worked.served) (map (λ (r : Row O t m most listening at). r.new) rows) ≡ sum_by (λ (services : List (Service S K A R)). length services) (map (λ (r : Row O t m most listening at). r.served.services) rows)
      rows_sum [] = refl
      rows_sum (r ∷ rs) =
          sum_by-cons (λ (s : Seat O D L C W A R). s.worked.served) r.new (map (λ (x : Row O t m most listening at). x.new) rs)
          ∙ both_sums r.served.count (rows_sum rs)
          ∙ sym (sum_by-cons (λ (services : List (Service S K A R)). length services) r.served.services (map (λ (x : Row O t m most listening at). x.served.services) rs))

      rows_numbers : (rows : List (Row O t m most listening at)) → map (λ (p : Pass O A R). number_of p) (map (λ (s : Seat O D L C W A R). s.pass) (map (λ (r : Row O t m most listening at). r.new) rows)) ≡ map (λ (p : Pass O A R). number_of p) (map (λ (r : Row O t m most listening at). r.pass) rows)
      rows_numbers [] = refl
      rows_numbers (r ∷ rs) = λ i. seat_number t m most listening at r.desk r.pass r.mid r.new r.opened r.served i ∷ rows_numbers rs i

      rows_bound : (rows : List (Row O t m most listening at)) → AllByRecursion (λ (d : Desk D L C W). (d.turns ≤ 2 ^ 56) × ((t.state d.door).given < 2 ^ 63)) (map (λ (r : Row O t m most listening at). r.desk) rows)
          → AllByRecursion (λ (s : Seat O D L C W A R). s.worked.served ≤ 2 ^ 56) (map (λ (r : Row O t m most listening at). r.new) rows)
      rows_bound [] h = tt
      rows_bound (r ∷ rs) h = (seat_bound t m most listening at r.desk r.pass r.mid r.new r.opened r.served h.0.0, rows_bound rs h.1)

      rows_failed : (rows : List (Row O t m most listening at)) → listening ≡ true → list_any is_left (map (λ (r : Row O t m most listening at). r.new) rows) ≡ true
          → SomeFailed t (map (λ (r : Row O t m most listening at). r.desk) rows) (map (λ (s : Seat O D L C W A R). s.desk) (map (λ (r : Row O t m most listening at). r.new) rows))
      rows_failed [] on h = absurd (cc h)
      rows_failed (r ∷ rs) on h =
          ⊎_elim
          (λ (left : is_left r.new ≡ true). inl (seat_failed t m most listening at r.desk r.pass r.mid r.new r.opened r.served on left))
          (λ (left : list_any is_left (map (λ (x : Row O t m most listening at). x.new) rs) ≡ true). inr (rows_failed rs on left))
          (one_is (is_left r.new) (list_any is_left (map (λ (x : Row O t m most listening at). x.new) rs)) h)

      rows_well : (rows : List (Row O t m most listening at)) → list_any is_left (map (λ (r : Row O t m most listening at). r.new) rows) ≡ false
          → AllEndedWell t (map (λ (r : Row O t m most listening at). r.desk) rows) (map (λ (s : Seat O D L C W A R). s.desk) (map (λ (r : Row O t m most listening at). r.new) rows))
      rows_well [] h = tt
      rows_well (r ∷ rs) h =
          let none = none_is (is_left r.new) (list_any is_left (map (λ (x : Row O t m most listening at). x.new) rs)) h in
          (seat_well t m most listening at r.desk r.pass r.mid r.new r.opened r.served none.0, rows_well rs none.1)

    -- ---- what follows for all seats

    module _ (place : Text) (ds : List (Desk D L C W)) (ps : List (Pass O A R)) (news : List (Seat O D L C W A R)) (w : Whole place ds ps news) where
      abbrev to : Option Text → Option Text
      to before = (t.state w.first.new.desk.door).place

      -- the desks as they were and as they are, the passes as they were, and the seats
      abbrev desks_old : List (Desk D L C W)
      desks_old = w.first.desk ∷ map (λ (r : Row O t m most w.listening to). r.desk) w.others

      abbrev passes_old : List (Pass O A R)
      passes_old = w.first.pass ∷ map (λ (r : Row O t m most w.listening to). r.pass) w.others

      abbrev seats_new : List (Seat O D L C W A R)
      seats_new = w.first.new ∷ map (λ (r : Row O t m most w.listening to). r.new) w.others

      abbrev desks_of : List (Seat O D L C W A R) → List (Desk D L C W)
      desks_of seats = map (λ (s : Seat O D L C W A R). s.desk) seats

      abbrev passes_in : List (Seat O D L C W A R) → List (Pass O A R)
      passes_in seats = map (λ (s : Seat O D L C W A R). s.pass) seats

      abbrev works_of : List (List (Service S K A R))
      works_of = w.first.served.services ∷ map (λ (r : Row O t m most w.listening to). r.served.services) w.others

      pub whole_bound : AllByRecursion (λ (d : Desk D L C W). (d.turns ≤ 2 ^ 56) × ((t.state d.door).given < 2 ^ 63)) ds → AllByRecursion (λ (s : Seat O D L C W A R). s.worked.served ≤ 2 ^ 56) news
      whole_bound h =
          let h' : AllByRecursion (λ (d : Desk D L C W). (d.turns ≤ 2 ^ 56) × ((t.state d.door).given < 2 ^ 63)) desks_old = subst (λ (l : List (Desk D L C W)). AllByRecursion (λ (d : Desk D L C W). (d.turns ≤ 2 ^ 56) × ((t.state d.door).given < 2 ^ 63)) l) w.desks_are h in
          subst (λ (l : List (Seat O D L C W A R)). AllByRecursion (λ (s : Seat O D L C W A R). s.worked.served ≤ 2 ^ 56) l) (sym w.seats_are)
          (seat_bound t m most w.listening (λ before. option_map (λ p. place) before) w.first.desk w.first.pass w.first.mid w.first.new w.first.opened w.first.served h'.0.0, rows_bound w.listening to w.others h'.1)

      pub whole_numbers : map (λ (p : Pass O A R). number_of p) (passes_in news) ≡ map (λ (p : Pass O A R). number_of p) ps
      whole_numbers =
          let core : map (λ (p : Pass O A R). number_of p) (passes_in seats_new) ≡ map (λ (p : Pass O A R). number_of p) passes_old =
          λ i. seat_number t m most w.listening (λ before. option_map (λ p. place) before) w.first.desk w.first.pass w.first.mid w.first.new w.first.opened w.first.served i ∷ rows_numbers w.listening to w.others i in
          ap (λ (l : List (Seat O D L C W A R)). map (λ (p : Pass O A R). number_of p) (passes_in l)) w.seats_are ∙ core ∙ sym (ap (λ (l : List (Pass O A R)). map (λ (p : Pass O A R). number_of p) l) w.passes_are)

      whole_desks : (history : List (Pair A R)) → AllByRecursion (λ (p : Pass O A R). Begins (front_of p) history) (passes_in news) → AllServed t m most history w.listening place ds (desks_of news) works_of
      whole_desks history b =
          let b' : AllByRecursion (λ (p : Pass O A R). Begins (front_of p) history) (passes_in seats_new) = subst (λ (l : List (Seat O D L C W A R)). AllByRecursion (λ (p : Pass O A R). Begins (front_of p) history) (passes_in l)) w.seats_are b in
          let core : AllServed t m most history w.listening place desks_old (desks_of seats_new) works_of = (
            λ off. (w.shut off, w.left off),
            desk_served t m most w.listening (λ before. option_map (λ p. place) before) w.first.desk w.first.pass w.first.mid w.first.new w.first.opened w.first.served history b'.0,
            rows_served w.listening to history w.others b'.1,
          ) in
          subst (λ (l : List (Desk D L C W)). AllServed t m most history w.listening place l (desks_of news) works_of) (sym w.desks_are)
          (subst (λ (l : List (Seat O D L C W A R)). AllServed t m most history w.listening place desks_old (desks_of l) works_of) (sym w.seats_are) core)

      whole_calls : AllByRecursion (λ (p : Pass O A R). HasDoneNothing p) ps → map (λ (p : Pass O A R). places_of (calls_of p)) (passes_in news) ≡ map (λ (services : List (Service S K A R)). places_in services) works_of
      whole_calls f =
          let f' : AllByRecursion (λ (p : Pass O A R). HasDoneNothing p) passes_old = subst (λ (l : List (Pass O A R)). AllByRecursion (λ (p : Pass O A R). HasDoneNothing p) l) w.passes_are f in
          ap (λ (l : List (Seat O D L C W A R)). map (λ (p : Pass O A R). places_of (calls_of p)) (passes_in l)) w.seats_are
          ∙ (λ i. seat_calls t m most w.listening (λ before. option_map (λ p. place) before) w.first.desk w.first.pass w.first.mid w.first.new w.first.opened w.first.served f'.0 i ∷ rows_calls w.listening to w.others f'.1 i)

      whole_sum : sum_by (λ (s : Seat O D L C W A R). s.worked.served) news ≡ sum_by (λ (services : List (Service S K A R)). length services) works_of
      whole_sum =
          ap (λ (l : List (Seat O D L C W A R)). sum_by (λ (s : Seat O D L C W A R). s.worked.served) l) w.seats_are
          ∙ sum_by-cons (λ (s : Seat O D L C W A R). s.worked.served) w.first.new (map (λ (r : Row O t m most w.listening to). r.new) w.others)
          ∙ both_sums w.first.served.count (rows_sum w.listening to w.others)
          ∙ sym (sum_by-cons (λ (services : List (Service S K A R)). length services) w.first.served.services (map (λ (r : Row O t m most w.listening to). r.served.services) w.others))

      failed_from : (b : Bool) → w.listening ≡ b → list_any is_left seats_new ≡ true → SomeFailed t desks_old (desks_of seats_new)
      failed_from false off h = inl (w.shut off).failed
      failed_from true on h =
          ⊎_elim
          (λ (left : is_left w.first.new ≡ true). inl (seat_failed t m most w.listening (λ before. option_map (λ p. place) before) w.first.desk w.first.pass w.first.mid w.first.new w.first.opened w.first.served on left))
          (λ (left : list_any is_left (map (λ (r : Row O t m most w.listening to). r.new) w.others) ≡ true). inr (rows_failed w.listening to w.others on left))
          (one_is (is_left w.first.new) (list_any is_left (map (λ (r : Row O t m most w.listening to). r.new) w.others)) h)

      whole_failed : list_any is_left news ≡ true → SomeFailed t ds (desks_of news)
      whole_failed h =
          let h' : list_any is_left seats_new ≡ true = subst (λ (l : List (Seat O D L C W A R)). list_any is_left l ≡ true) w.seats_are h in
          subst (λ (l : List (Desk D L C W)). SomeFailed t l (desks_of news)) (sym w.desks_are)
          (subst (λ (l : List (Seat O D L C W A R)). SomeFailed t desks_old (desks_of l)) (sym w.seats_are) (failed_from w.listening refl h'))

      whole_well : list_any is_left news ≡ false → AllEndedWell t ds (desks_of news)
      whole_well h =
          let h' : list_any is_left seats_new ≡ false = subst (λ (l : List (Seat O D L C W A R)). list_any is_left l ≡ false) w.seats_are h in
          let none = none_is (is_left w.first.new) (list_any is_left (map (λ (r : Row O t m most w.listening to). r.new) w.others)) h' in
          let core : AllEndedWell t desks_old (desks_of seats_new) = (
            seat_well t m most w.listening (λ before. option_map (λ p. place) before) w.first.desk w.first.pass w.first.mid w.first.new w.first.opened w.first.served none.0,
            rows_well w.listening to w.others none.1,
          ) in
          subst (λ (l : List (Desk D L C W)). AllEndedWell t l (desks_of news)) (sym w.desks_are)
          (subst (λ (l : List (Seat O D L C W A R)). AllEndedWell t desks_old (desks_of l)) (sym w.seats_are) core)

      some_desk : {X : Type 0} → ds ≡ [] → X
      some_desk e = let none : length desks_old ≡ 0 = ap (λ (l : List (Desk D L C W)). length l) (sym w.desks_are ∙ e) in absurd (omega arith)

      module _ {Setup : Type 0} (limit : Setup → ℕ) (setup : O → Setup) (history_of : O → List (Pair A R)) (is_legal : Setup → List (Pair A R) → Type 0) (configured : Setup) where
        -- desks and passes were given back, what was served was counted, and the store was closed
        pub summarised : (seats : List (Seat O D L C W A R)) (desks : List (Desk D L C W)) (passes : List (Pass O A R)) (closed : Closed O) (served entries : ℕ) (fault : Bool)
            → most ≡ limit configured → AllByRecursion (λ (p : Pass O A R). HasDoneNothing p) ps → seats ≡ news
            → desks ≡ desks_of seats → passes ≡ passes_in seats → served ≡ sum_by (λ (s : Seat O D L C W A R). s.worked.served) seats → fault ≡ list_any is_left seats
            → setup closed.core ≡ configured → is_legal configured (history_of closed.core)
            → All (λ (p : Pass O A R). Begins (front_of p) (history_of closed.core)) passes
            → closed.calls ≡ map (λ (p : Pass O A R). places_of (calls_of p)) passes
            → IsEachOnce (length (history_of closed.core)) closed.calls
            → entries ≡ length (history_of closed.core)
            → SummarisesDesks t m limit setup history_of is_legal configured place ds desks (record { served = served; entries = entries; fault = fault; closed = Some closed })
        summarised seats desks passes closed served entries fault limited fresh back desks_given passes_given sum_given fault_given set_up legal fronts calls once length_is =
            let desks_are : desks ≡ desks_of news = desks_given ∙ ap (λ (l : List (Seat O D L C W A R)). desks_of l) back in
            let passes_are : passes ≡ passes_in news = passes_given ∙ ap (λ (l : List (Seat O D L C W A R)). passes_in l) back in
            let sum_is : served ≡ sum_by (λ (s : Seat O D L C W A R). s.worked.served) news = sum_given ∙ ap (λ (l : List (Seat O D L C W A R)). sum_by (λ (s : Seat O D L C W A R). s.worked.served) l) back in
            let fault_is : fault ≡ list_any is_left news = fault_given ∙ ap (λ (l : List (Seat O D L C W A R)). list_any is_left l) back in
            let begin_all : AllByRecursion (λ (p : Pass O A R). Begins (front_of p) (history_of closed.core)) (passes_in news) =
            subst (λ (l : List (Pass O A R)). AllByRecursion (λ (p : Pass O A R). Begins (front_of p) (history_of closed.core)) l) passes_are (all_by (λ (p : Pass O A R). Begins (front_of p) (history_of closed.core)) passes fronts) in
            record {
              none = λ e. some_desk e;
              some = λ _. (
                closed,
                refl,
                record {
                  set_up = set_up;
                  legal = legal;
                  listening = w.listening;
                  works = works_of;
                  desks =
                      subst (λ (n : ℕ). AllServed t m n (history_of closed.core) w.listening place ds desks works_of) limited
                      (subst (λ (l : List (Desk D L C W)). AllServed t m most (history_of closed.core) w.listening place ds l works_of) (sym desks_are) (whole_desks (history_of closed.core) begin_all));
                  calls = calls ∙ ap (λ (l : List (Pass O A R)). map (λ (p : Pass O A R). places_of (calls_of p)) l) passes_are ∙ whole_calls fresh;
                  once = once;
                  number = sum_is ∙ whole_sum;
                  length_is = length_is;
                },
              );
              failed = λ h. subst (λ (l : List (Desk D L C W)). SomeFailed t ds l) (sym desks_are) (whole_failed (sym fault_is ∙ h));
              well = λ h. subst (λ (l : List (Desk D L C W)). AllEndedWell t ds l) (sym desks_are) (whole_well (sym fault_is ∙ h));
            }
