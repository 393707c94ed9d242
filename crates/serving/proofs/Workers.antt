-- Connections that are served one after another.
use Rattle.std.proofs.Common.{◌≡◌, ℕ, ◌+◌, ◌-◌, ◌*◌, ◌^◌, ◌<◌, min, List, [], ◌∷◌, ◌++◌, map, Option, Some, None, ap, sym, subst, ◌∙◌, refl, arith}
use Rattle.std.specs.Prelude.{option_map}
use Rattle.std.proofs.lemmas.List.{append_assoc, append-nil, map-append, length-append}
use Rattle.std.proofs.lemmas.Grind.{flat_map-append}
use Rattle.sso_base.specs.Words.{Word}
use Rattle.sso_base.specs.declared.history.Pair.{Pair}
use Rattle.server_desk.specs.Ahead.{MovedOn}
use Rattle.server_desk.specs.Doors.{DoorState, GaveConnection, with_served}
use Rattle.server_desk.specs.Links.{LinkState}
use Rattle.server_desk.specs.declared.connection.Connection.{Connection}
use Rattle.turn_store.specs.declared.store.Pass.{Pass}
use Rattle.turn_store.specs.Places.{Begins}
use Rattle.turn_store.specs.Passes.{front_of}
use Rattle.turn_store.proofs.Totals.{begins_same}
use Rattle.serving.specs.LinkCalls.{LinkCall, TookCalls}
use Rattle.serving.specs.Manner.{Manner}
use Rattle.serving.specs.Serving.{Serves}
use Rattle.serving.specs.Steps.{Stepped}
use Rattle.serving.specs.Work.{Work, MadeAll, Did}
use Rattle.serving.specs.Working.{Service, steps_in, calls_in, readings_in, DrawnIn, Passed, ServesAll, AtDesk}
use Rattle.serving.specs.declared.ends.Served as ends
use Rattle.serving.proofs.Calls.{took_none, took_both}
use Rattle.serving.proofs.Doing.{moved_none, moved_both, drawn_later, none_made}
use Rattle.serving.proofs.Histories.{serves_on, made_both}
use Rattle.serving.proofs.LinkEnds.{rose_by_some}

-- maps one behind the other
map_twice : {A : Type 0} (f g h : A → A) → ((x : A) → f (g x) ≡ h x) → (o : Option A) → option_map f (option_map g o) ≡ option_map h o
map_twice f g h same None = refl
map_twice f g h same (Some x) = ap Some (same x)

map_same : {A : Type 0} (h : A → A) → ((x : A) → h x ≡ x) → (o : Option A) → option_map h o ≡ o
map_same h same None = refl
map_same h same (Some x) = ap Some (same x)

grown_once : (n : ℕ) → n + 1 < 2 ^ 64 → min (n + 1) (2 ^ 64 - 1) ≡ n + 1
grown_once n small = omega arith

module _ {A R : Type 0} where
  pub made_none : {C : Type 0} (p : Pass C A R) → MadeAll p p []
  made_none p = none_made p p (begins_same (front_of p)) refl

module _ {S K A R : Type 0} where
  readings_both : (xs ys : List (Service S K A R)) → readings_in (xs ++ ys) ≡ readings_in xs + readings_in ys
  readings_both [] ys = omega arith
  readings_both (x ∷ xs) ys = let more = readings_both xs ys in omega arith

  -- the steps of later connections were called with later readings
  drawn_in_later : (moments moments' : ℕ → Option ℕ) (words words' : ℕ → Option Word) (n r : ℕ) → MovedOn moments moments' n → MovedOn words words' (4 * n) → (ys : List (Service S K A R)) → DrawnIn moments' words' r ys → DrawnIn moments words (n + r) ys
  drawn_in_later moments moments' words words' n r a b [] d = tt
  drawn_in_later moments moments' words words' n r a b (y ∷ ys) d =
      let next : n + (r + y.work.readings) ≡ (n + r) + y.work.readings = omega arith in (
        drawn_later moments moments' words words' n r y.work.steps a b d.0,
        d.1,
        subst (λ (t : ℕ). DrawnIn moments words t ys) next (drawn_in_later moments moments' words words' n (r + y.work.readings) a b ys d.2),
      )

  drawn_both : (moments : ℕ → Option ℕ) (words : ℕ → Option Word) (r : ℕ) (xs ys : List (Service S K A R)) → DrawnIn moments words r xs → DrawnIn moments words (r + readings_in xs) ys → DrawnIn moments words r (xs ++ ys)
  drawn_both moments words r [] ys d e = let same : r + 0 ≡ r = omega arith in subst (λ (t : ℕ). DrawnIn moments words t ys) same e
  drawn_both moments words r (x ∷ xs) ys d e =
      let same : r + (x.work.readings + readings_in xs) ≡ (r + x.work.readings) + readings_in xs = omega arith in
      (d.0, d.1, drawn_both moments words (r + x.work.readings) xs ys d.2 (subst (λ (t : ℕ). DrawnIn moments words t ys) same e))

  passed_none : (door : DoorState S K) → Passed {A = A} {R = R} door door []
  passed_none door = record {
    coming = sym (map_same (λ (rest : List (Connection S K)). rest) (λ x. refl) door.coming);
    served = sym (map_same (λ (before : List (Connection S K)). before ++ []) (λ x. append-nil x) door.served);
    given = omega arith;
  }

  passed_one : (door mid door' : DoorState S K) (s : Service S K A R) → door.given + 1 < 2 ^ 64 → GaveConnection door mid s.came → door' ≡ with_served mid s.went → Passed door door' (s ∷ [])
  passed_one door mid door' s small gave back = record {
    coming = gave.coming ∙ ap (λ (o : Option (List (Connection S K))). option_map (λ (rest : List (Connection S K)). s.came ∷ rest) o) (sym (ap (λ (d : DoorState S K). d.coming) back));
    served = ap (λ (d : DoorState S K). d.served) back ∙ ap (λ (d : DoorState S K). option_map (λ (before : List (Connection S K)). before ++ s.went ∷ []) d.served) gave.rest;
    given = ap (λ (d : DoorState S K). d.given) back ∙ ap (λ (d : DoorState S K). d.given) gave.rest ∙ grown_once door.given small;
  }

  passed_both : (door mid door' : DoorState S K) (xs ys : List (Service S K A R)) → Passed door mid xs → Passed mid door' ys → Passed door door' (xs ++ ys)
  passed_both door mid door' xs ys a b =
      let came : (rest : List (Connection S K)) → map (λ (s : Service S K A R). s.came) xs ++ (map (λ (s : Service S K A R). s.came) ys ++ rest) ≡ map (λ (s : Service S K A R). s.came) (xs ++ ys) ++ rest = λ rest.
      sym (append_assoc (map (λ (s : Service S K A R). s.came) xs) (map (λ (s : Service S K A R). s.came) ys) rest) ∙ sym (ap (λ l. l ++ rest) (map-append (λ (s : Service S K A R). s.came) xs ys)) in
      let went : (before : List (Connection S K)) → (before ++ map (λ (s : Service S K A R). s.went) xs) ++ map (λ (s : Service S K A R). s.went) ys ≡ before ++ map (λ (s : Service S K A R). s.went) (xs ++ ys) = λ before.
      append_assoc before (map (λ (s : Service S K A R). s.went) xs) (map (λ (s : Service S K A R). s.went) ys) ∙ sym (ap (λ l. before ++ l) (map-append (λ (s : Service S K A R). s.went) xs ys)) in
      let long = length-append xs ys in let m = a.given in let n = b.given in
      record {
        coming = a.coming ∙ ap (λ (o : Option (List (Connection S K))). option_map (λ (rest : List (Connection S K)). map (λ (s : Service S K A R). s.came) xs ++ rest) o) b.coming
            ∙ map_twice (λ (rest : List (Connection S K)). map (λ (s : Service S K A R). s.came) xs ++ rest) (λ (rest : List (Connection S K)). map (λ (s : Service S K A R). s.came) ys ++ rest) (λ (rest : List (Connection S K)). map (λ (s : Service S K A R). s.came) (xs ++ ys) ++ rest) came door'.coming;
        served = b.served ∙ ap (λ (o : Option (List (Connection S K))). option_map (λ (before : List (Connection S K)). before ++ map (λ (s : Service S K A R). s.went) ys) o) a.served
            ∙ map_twice (λ (before : List (Connection S K)). before ++ map (λ (s : Service S K A R). s.went) ys) (λ (before : List (Connection S K)). before ++ map (λ (s : Service S K A R). s.went) xs) (λ (before : List (Connection S K)). before ++ map (λ (s : Service S K A R). s.went) (xs ++ ys)) went door.served;
        given = omega arith;
      }

  module _ (m : Manner A R) (most : ℕ) (left : S → Option (List ℕ)) (read_faults : S → ℕ) (taken : K → Option (List ℕ)) (write_faults : K → ℕ) where
    pub serves_all_on : (h k : List (Pair A R)) → Begins h k → (xs : List (Service S K A R)) → ServesAll m most left read_faults taken write_faults h xs → ServesAll m most left read_faults taken write_faults k xs
    serves_all_on h k b [] s = tt
    serves_all_on h k b (x ∷ xs) s = (serves_on m most left read_faults taken write_faults h k x.came x.went x.work x.served b s.0, serves_all_on h k b xs s.1)

    serves_both : (h : List (Pair A R)) (xs ys : List (Service S K A R)) → ServesAll m most left read_faults taken write_faults h xs → ServesAll m most left read_faults taken write_faults h ys → ServesAll m most left read_faults taken write_faults h (xs ++ ys)
    serves_both h [] ys a b = b
    serves_both h (x ∷ xs) ys a b = (a.0, serves_both h xs ys a.1 b)

    module _ (history : List (Pair A R)) (link : LinkState) (moments : ℕ → Option ℕ) (words : ℕ → Option Word) where
      -- nothing was done
      pub at_desk_none : (door : DoorState S K) → AtDesk m most left read_faults taken write_faults history door door link link moments moments words words []
      at_desk_none door = record { passed = passed_none door; sent = took_none link; drawn = tt; clock = moved_none moments; draw = moved_none words; served = tt; failed = λ some. absurd some }

      -- one connection was served
      pub at_desk_one : {C : Type 0} (p q : Pass C A R) (door mid door' : DoorState S K) (link' : LinkState) (moments' : ℕ → Option ℕ) (words' : ℕ → Option Word) (came went : Connection S K) (served : ends.Served) (w : Work A R)
          → door.given + 1 < 2 ^ 64 → GaveConnection door mid came → door' ≡ with_served mid went
          → Did p q link link' moments moments' words words' w → Serves m most left read_faults taken write_faults history came went w served
          → AtDesk m most left read_faults taken write_faults history door door' link link' moments moments' words words' (record { came = came; went = went; work = w; served = served } ∷ [])
      at_desk_one p q door mid door' link' moments' words' came went served w small gave back did serves =
          let s : Service S K A R = record { came = came; went = went; work = w; served = served } in
          let all : w.readings + 0 ≡ w.readings = omega arith in
          let sent : TookCalls link link' (calls_in (s ∷ [])) = subst (λ (calls : List LinkCall). TookCalls link link' calls) (sym (append-nil w.calls)) did.sent in
          record {
            passed = passed_one door mid door' s small gave back;
            sent = sent;
            drawn = (did.drawn, did.read, tt);
            clock = subst (λ (n : ℕ). MovedOn moments moments' n) (sym all) did.clock;
            draw = subst (λ (n : ℕ). MovedOn words words' (4 * n)) (sym all) did.draw;
            served = (serves, tt);
            failed = rose_by_some m most left read_faults taken write_faults history (s ∷ []) link link' sent (serves, tt);
          }

    module _ (link mid link' : LinkState) (moments moments1 moments' : ℕ → Option ℕ) (words words1 words' : ℕ → Option Word) where
      -- connections were served, and then more
      pub at_desk_both : (h k : List (Pair A R)) (door door1 door' : DoorState S K) (xs ys : List (Service S K A R)) → Begins h k
          → AtDesk m most left read_faults taken write_faults h door door1 link mid moments moments1 words words1 xs
          → AtDesk m most left read_faults taken write_faults k door1 door' mid link' moments1 moments' words1 words' ys
          → AtDesk m most left read_faults taken write_faults k door door' link link' moments moments' words words' (xs ++ ys)
      at_desk_both h k door door1 door' xs ys b a c =
          let all = readings_both xs ys in
          let four : 4 * readings_in xs + 4 * readings_in ys ≡ 4 * readings_in (xs ++ ys) = omega arith in
          let from : readings_in xs + 0 ≡ 0 + readings_in xs = omega arith in
          let sent : TookCalls link link' (calls_in (xs ++ ys)) =
          subst (λ (calls : List LinkCall). TookCalls link link' calls) (sym (flat_map-append (λ (x : Service S K A R). x.work.calls) xs ys)) (took_both link mid link' (calls_in xs) (calls_in ys) a.sent c.sent) in
          let served = serves_both k xs ys (serves_all_on h k b xs a.served) c.served in
          record {
            passed = passed_both door door1 door' xs ys a.passed c.passed;
            sent = sent;
            drawn = drawn_both moments words 0 xs ys a.drawn (subst (λ (t : ℕ). DrawnIn moments words t ys) from (drawn_in_later moments moments1 words words1 (readings_in xs) 0 a.clock a.draw ys c.drawn));
            clock = subst (λ (n : ℕ). MovedOn moments moments' n) (sym all) (moved_both moments moments1 moments' (readings_in xs) (readings_in ys) a.clock c.clock);
            draw = subst (λ (n : ℕ). MovedOn words words' n) four (moved_both words words1 words' (4 * readings_in xs) (4 * readings_in ys) a.draw c.draw);
            served = served;
            failed = rose_by_some m most left read_faults taken write_faults k (xs ++ ys) link link' sent served;
          }

  -- the steps of connections and then of more
  pub steps_both : {C : Type 0} (p q r : Pass C A R) (xs ys : List (Service S K A R)) → MadeAll p q (steps_in xs) → MadeAll q r (steps_in ys) → MadeAll p r (steps_in (xs ++ ys))
  steps_both p q r xs ys a b = subst (λ (steps : List (Stepped A R)). MadeAll p r steps) (sym (flat_map-append (λ (x : Service S K A R). x.work.steps) xs ys)) (made_both p q r (steps_in xs) (steps_in ys) a b)
