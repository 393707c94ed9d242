-- The definitions computed on small cases: what each accepts, and what it refuses.
use Rattle.std.proofs.Common.{◌≡◌, ◌≢◌, ◌≤◌, ℕ, ◌+◌, ◌-◌, ◌^◌, ◌∷◌, ◌++◌, [], List, Some, None, Ok, Err, arith, drop, map, ap, refl}
use Rattle.std.specs.Prelude.{codes, option_map}
use Rattle.server_desk.specs.declared.connection.Connection.{Connection}
use Rattle.server_desk.specs.declared.link.LinkNo.TheVariants.{NoMemory, Failed}
use Rattle.server_desk.specs.Ahead.{IsTold, MovedOn, ClockMemory, moments_ahead, clock_behind, word_of_number, words_ahead}
use Rattle.server_desk.specs.Doors.{DoorMemory, grown, started, shared, GaveConnection, with_served, told_state, new_door, with_fault, GaveFirst, with_back}
use Rattle.server_desk.specs.Links.{next_answer, after_exchange, TookCall, untold_link, told_link}
use Rattle.server_desk.specs.Sources.{Gives, GivesFront, IsSpent}

two_of_three : Gives (Some (1 ∷ 2 ∷ 3 ∷ [])) (Some (3 ∷ [])) (1 ∷ 2 ∷ [])
two_of_three = refl

not_others : Gives (Some (1 ∷ [])) (Some []) (2 ∷ []) → ⊥
not_others e = absurd cc

untold : Gives None None (1 ∷ [])
untold = refl

one_of_two_before_a_fault : GivesFront (Some (1 ∷ 2 ∷ [])) (Some (2 ∷ [])) (1 ∷ 9 ∷ [])
one_of_two_before_a_fault = (1, omega arith, refl)

nothing_left : IsSpent (Some [])
nothing_left = refl

one_byte_left : IsSpent (Some (1 ∷ [])) → ⊥
one_byte_left e = absurd cc

-- values to come

the_told_one : IsTold {A = ℕ} (Some 5) 5
the_told_one = refl

another_than_the_told_one : IsTold {A = ℕ} (Some 5) 6 → ⊥
another_than_the_told_one e = absurd cc

one_was_taken : MovedOn (λ (i : ℕ). Some i) (λ (i : ℕ). Some (i + 1)) 1
one_was_taken = λ i. refl

none_was_taken : MovedOn (λ (i : ℕ). Some i) (λ (i : ℕ). Some i) 1 → ⊥
none_was_taken moved = let e = moved 0 in absurd cc

-- a clock that is at 5, and then at 7
abbrev clock : ClockMemory
clock = record { next = 5; behind = 7 ∷ [] }

second_moment : moments_ahead clock 1 ≡ Some 7
second_moment = refl

last_moment_again : moments_ahead clock 9 ≡ Some 7
last_moment_again = refl

not_from_the_first_again : moments_ahead clock 2 ≢ Some 5
not_from_the_first_again e = absurd cc

a_clock_goes_on : clock_behind 5 (7 ∷ []) ≡ record { next = 7; behind = [] }
a_clock_goes_on = refl

a_clock_stands : clock_behind 7 [] ≡ record { next = 7; behind = [] }
a_clock_stands = refl

no_moment_is_skipped : (clock_behind 5 (7 ∷ 9 ∷ [])).next ≢ 9
no_moment_is_skipped e = absurd cc

abbrev seed : List ℕ
seed = codes "abcdefghijklmnopqrstuvwx"

greatest_byte_first : word_of_number seed 258 ≡ seed ++ 0 ∷ 0 ∷ 0 ∷ 0 ∷ 0 ∷ 0 ∷ 1 ∷ 2 ∷ []
greatest_byte_first = refl

not_least_byte_first : drop 24 (word_of_number seed 258) ≢ 2 ∷ 1 ∷ 0 ∷ 0 ∷ 0 ∷ 0 ∷ 0 ∷ 0 ∷ []
not_least_byte_first e = absurd cc

third_word : words_ahead (record { seed = seed; number = 1 }) 2 ≡ Some (word_of_number seed 3)
third_word = refl

last_word_again : words_ahead (record { seed = seed; number = 2 ^ 64 - 1 }) 1 ≡ Some (word_of_number seed (2 ^ 64 - 1))
last_word_again = refl

no_word_twice : option_map (λ (w : List ℕ). drop 24 w) (words_ahead (record { seed = seed; number = 1 }) 1) ≢ Some (0 ∷ 0 ∷ 0 ∷ 0 ∷ 0 ∷ 0 ∷ 0 ∷ 1 ∷ [])
no_word_twice e = absurd cc

-- doors

abbrev one : Connection ℕ ℕ
one = record { source = 1; sink = 1 }

abbrev two : Connection ℕ ℕ
two = record { source = 2; sink = 2 }

-- both are to come
abbrev before : DoorMemory ℕ ℕ
before = new_door (one ∷ two ∷ [])

-- the first was given
abbrev after : DoorMemory ℕ ℕ
after = record before { coming = two ∷ []; given = 1; out = 1 }

first_comes : GaveFirst before after (Some one)
first_comes = (refl, refl)

last_does_not : GaveFirst before (record after { coming = one ∷ [] }) (Some two) → ⊥
last_does_not gave =
    let sources = ap (λ (cs : List (Connection ℕ ℕ)). map (λ (c : Connection ℕ ℕ). c.source) cs) gave.0 in
    absurd cc

closed_behind_the_last : GaveFirst (record before { coming = [] }) (record before { coming = []; closings = 1 }) None
closed_behind_the_last = (refl, refl)

not_closed_before_it : GaveFirst before (record before { closings = 1 }) None → ⊥
not_closed_before_it closed = let e : one ∷ two ∷ [] ≡ [] = closed.0 in absurd cc

it_tells_what_it_gave : GaveConnection (told_state before) (told_state after) one
it_tells_what_it_gave = record { coming = refl; rest = refl }

it_gave_nothing : GaveConnection (told_state before) (told_state before) one → ⊥
it_gave_nothing gave = let e : Some (one ∷ two ∷ []) ≡ Some (one ∷ one ∷ two ∷ []) = gave.coming in absurd cc

it_hides_nothing : (told_state before).coming ≢ None
it_hides_nothing e = absurd cc

one_is_back : with_back after one ≡ record after { served = one ∷ []; out = 0 }
one_is_back = refl

it_is_out_no_more : (with_back after one).out ≢ 1
it_is_out_no_more e = absurd cc

it_tells_what_is_back : with_served (told_state after) one ≡ told_state (with_back after one)
it_tells_what_is_back = refl

it_tells_it_as_out_no_more : (with_served (told_state after) one).out ≢ 1
it_tells_it_as_out_no_more e = absurd cc

it_listens_there : started (told_state before) (codes "h:1") ≡ told_state (record before { place = codes "h:1" })
it_listens_there = refl

it_listened_nowhere : (started (told_state before) (codes "h:1")).place ≢ Some []
it_listened_nowhere e = absurd cc

it_listens_where_the_first_does : shared (told_state before) (told_state (record after { place = codes "h:1" })) ≡ started (told_state before) (codes "h:1")
it_listens_where_the_first_does = refl

not_where_it_did_before : (shared (told_state before) (told_state (record after { place = codes "h:1" }))).place ≢ Some []
not_where_it_did_before e = absurd cc

nothing_is_given_at_first : before.given ≡ 0
nothing_is_given_at_first = refl

nothing_is_out_at_first : before.out ≢ 1
nothing_is_out_at_first e = absurd cc

a_fault_is_counted : (with_fault before).faults ≡ 1
a_fault_is_counted = refl

a_fault_is_not_passed_over : (with_fault before).faults ≢ 0
a_fault_is_not_passed_over e = absurd cc

a_full_count_stands : grown (2 ^ 64 - 1) ≡ 2 ^ 64 - 1
a_full_count_stands = refl

a_count_grows : grown 5 ≢ 5
a_count_grows e = absurd cc

-- links

first_answer : next_answer ((1 ∷ []) ∷ (2 ∷ []) ∷ []) ≡ 1 ∷ []
first_answer = refl

no_answer_is_left : next_answer [] ≡ []
no_answer_is_left = refl

not_the_second : next_answer ((1 ∷ []) ∷ (2 ∷ []) ∷ []) ≢ 2 ∷ []
not_the_second e = absurd cc

what_came_back_is_told : after_exchange (Some []) (codes "h:1") (1 ∷ []) (Ok (2 ∷ [])) ≡ Some ((record { to = codes "h:1"; asked = 1 ∷ []; back = Some (2 ∷ []) }) ∷ [])
what_came_back_is_told = refl

a_failure_is_told : after_exchange (Some []) (codes "h:1") (1 ∷ []) (Err Failed) ≡ Some ((record { to = codes "h:1"; asked = 1 ∷ []; back = None }) ∷ [])
a_failure_is_told = refl

a_failure_is_not_left_out : after_exchange (Some []) (codes "h:1") (1 ∷ []) (Err Failed) ≢ Some []
a_failure_is_not_left_out e = absurd cc

nothing_was_sent : after_exchange (Some []) (codes "h:1") (1 ∷ []) (Err NoMemory) ≡ Some []
nothing_was_sent = refl

-- a link that tells nothing, and failed at its only call
a_failure_is_counted : TookCall (untold_link 0 0) (untold_link 1 1) (codes "h:1") (1 ∷ []) (Err Failed)
a_failure_is_counted = record { told = refl; counted = refl; later = omega arith; failed = λ e. omega arith }

a_call_without_memory_is_counted : TookCall (untold_link 4 0) (untold_link 5 0) (codes "h:1") (1 ∷ []) (Err NoMemory)
a_call_without_memory_is_counted = record { told = refl; counted = refl; later = omega arith; failed = λ e. absurd (cc e) }

it_was_not_called : (to : List ℕ) (asked : List ℕ) → TookCall (untold_link 0 0) (untold_link 0 0) to asked (Err NoMemory) → ⊥
it_was_not_called to asked took = let e : 0 ≡ 1 = took.counted in absurd (omega (arith, e))

no_failure_without_a_fault : TookCall (untold_link 0 0) (untold_link 1 0) (codes "h:1") (1 ∷ []) (Err Failed) → ⊥
no_failure_without_a_fault took = let rose : 1 ≤ 0 = took.failed refl in absurd (omega (arith, rose))

it_tells_its_calls : (told_link (record { answers = []; exchanges = []; calls = 3 })).calls ≡ 3
it_tells_its_calls = refl
