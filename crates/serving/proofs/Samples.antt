-- The definitions computed on small cases: what each accepts, and what it refuses. Requests and replies are numbers. A request
-- is parsed as the length of its path, and the answer to a question as its status.
use Rattle.std.proofs.Common.{◌≡◌, ◌≢◌, inl, inr, ℕ, zero, suc, ◌+◌, ◌*◌, ◌<◌, ◌≤◌, nat_le, true, false, List, [], ◌∷◌, length, codes, Option, Some, None, Result, Ok, Err, refl, ap, arith}
use Rattle.std.specs.Fmt.{digits}
use Rattle.http_reply.specs.Replies.{plain}
use Rattle.sso_base.specs.Outside.{SinkMemory}
use Rattle.sso_base.specs.Words.{Word, fresh_word}
use Rattle.sso_base.specs.declared.history.Pair.{Pair}
use Rattle.sso_base.specs.declared.http.Ask.{Ask}
use Rattle.sso_base.specs.declared.message.Message.{Message}
use Rattle.sso_base.specs.declared.message.Answered.{Answered}
use Rattle.server_desk.specs.declared.link.LinkNo.TheVariants as link_no
use Rattle.server_desk.specs.Ahead.{IsTold}
use Rattle.server_desk.specs.Links.{Exchange, LinkState, untold_link}
use Rattle.server_desk.specs.declared.connection.Connection.{Connection}
use Rattle.sso_http.proofs.OneHead.{unended}
use Rattle.sso_http.proofs.Samples.{get_text, a_request}
use Rattle.sso_http.proofs.SentReplies.{sent}
use Rattle.sso_http.specs.Peers.{IsAnswer}
use Rattle.sso_http.specs.Refusals.{refusal_bytes}
use Rattle.sso_http.specs.Replies.{reply_bytes, status_line, reason}
use Rattle.sso_http.specs.Writing.{no_store, field, last_lines}
use Rattle.sso_http.specs.declared.no.HttpNo.TheVariants as http_no
use Rattle.turn_store.specs.Views.{idle}
use Rattle.turn_store.specs.declared.store.Pass.{Pass}
use Rattle.turn_store.specs.declared.view.Called.{Called}
use Rattle.serving.specs.declared.ends.ServedEnd.TheVariants as end
use Rattle.serving.specs.declared.no_reply.NoReply.{NoReply}
use Rattle.serving.specs.declared.no_reply.NoReply.TheVariants.{NoMemory, Http, Link, Peer, TooLarge, Busy, Full}
use Rattle.serving.specs.LinkCalls.{LinkCall, sending_of, after_calls, grown_by, failures as failed_calls, TookCalls}
use Rattle.serving.specs.Manner.{Manner, bytes_by}
use Rattle.serving.specs.Serving.{IsPeerAnswer, IsAsked, IsUnasked, Asks, IsAskedBack, IsRun, IsLastReply, LeadsTo, LeadsToTooLarge, IsStopped, Cause, Serves}
use Rattle.serving.specs.Steps.{Stepped, history_after, called_of, IsDrawn, IsFull, IsNoStep, Made}
use Rattle.serving.specs.Told.{memory_bytes, busy_bytes, bytes_without, end_of}
use Rattle.serving.specs.Work.{Work, LieBehind, DrawnFrom, MadeAll, Did}
use Rattle.serving.specs.Writing.{Wrote, WroteWithout}

-- a source or a sink: its bytes, and how often it failed
abbrev pub Stream : Type 0
Stream = SinkMemory

abbrev pub stream : List ℕ → Stream
stream bytes = record { bytes = bytes; faults = 0 }

abbrev failed_with : List ℕ → Stream
failed_with bytes = record { bytes = bytes; faults = 1 }

abbrev pub held : Stream → Option (List ℕ)
held s = Some s.bytes

abbrev pub failures : Stream → ℕ
failures s = s.faults

-- the body of a message is its number
abbrev pub message : ℕ → Message
message number = record { to = codes "http://h"; auth = None; body = Some (number ∷ []) }

-- the reply 0 puts a question
abbrev question_of : ℕ → Option Message
question_of zero = Some (message 1)
question_of (suc reply) = None

-- the replies from 2 on have a notice
abbrev notices_after : ℕ → List Message
notices_after zero = []
notices_after (suc zero) = []
notices_after (suc (suc reply)) = message 2 ∷ []

abbrev pub manner : Manner ℕ ℕ
manner = record {
  first = codes "op_b";
  second = codes "op_s";
  prepared = λ (request : Ask). length request.path;
  proves = λ (request : Ask). false;
  question = question_of;
  answered = λ (reply : ℕ) (answer : Answered). answer.status;
  notices = notices_after;
  http = λ (reply : ℕ). plain 200 (reply ∷ []);
  takes = λ (ask : ℕ). nat_le ask 200;
  weighs = λ (ask : ℕ). ask;
  workers = 2;
}

-- each request proves a password
abbrev pub proving : Manner ℕ ℕ
proving = record manner { proves = λ (request : Ask). true }

-- the greatest weight of a history
abbrev pub limit : ℕ
limit = 268435456

-- ---- what is sent

ends-written : end_of {R = ℕ} (Ok 1) ≡ end.Written
ends-written = refl

told-that_the_journal_is_full : bytes_without Full ≡ Some (codes "HTTP/1.1 503 Service Unavailable\r\nCache-Control: no-store\r\nContent-Type: text/plain; charset=utf-8\r\nContent-Length: 8\r\nConnection: close\r\n\r\njournal\n")
unfolding bytes_without reply_bytes status_line reason no_store field last_lines digits
told-that_the_journal_is_full = refl

told-to_come_again : bytes_without Busy ≡ Some (codes "HTTP/1.1 503 Service Unavailable\r\nRetry-After: 1\r\nCache-Control: no-store\r\nContent-Type: text/plain; charset=utf-8\r\nContent-Length: 5\r\nConnection: close\r\n\r\nbusy\n")
unfolding bytes_without busy_bytes
told-to_come_again = refl

told-nothing_where_nobody_reads : bytes_without (Http http_no.EndedEarly) ≡ None
unfolding bytes_without refusal_bytes
told-nothing_where_nobody_reads = refl

not_told-nothing : bytes_without Link ≢ None
unfolding bytes_without
not_told-nothing e = absurd cc

-- ---- what is written

written-the_bytes : Wrote held failures (stream (7 ∷ [])) (stream (7 ∷ 8 ∷ 9 ∷ [])) (Some (8 ∷ 9 ∷ [])) end.Written end.Written
written-the_bytes = inl (refl, refl)

written-a_front_before_a_fault : Wrote held failures (stream []) (failed_with (8 ∷ [])) (Some (8 ∷ 9 ∷ [])) end.Written end.WriteFault
written-a_front_before_a_fault = inr (refl, (1, omega arith, refl), omega arith)

not_written-other_bytes : Wrote held failures (stream []) (stream (9 ∷ [])) (Some (8 ∷ [])) end.Written end.Written → ⊥
not_written-other_bytes (inl w) = let e : ◌≡◌ {A = Option (List ℕ)} (Some (9 ∷ [])) (Some (8 ∷ [])) = w.1 in absurd cc
not_written-other_bytes (inr w) = let e : end.Written ≡ end.WriteFault = w.0 in absurd cc

written-that_memory_ran_out : WroteWithout held failures (stream []) (stream memory_bytes) Peer end.NoMemory
unfolding bytes_without
written-that_memory_ran_out = inr (inl (refl, refl))

-- ---- calls of a link

abbrev pub asked_and_answered : LinkCall
asked_and_answered = record { sent = sending_of (message 1); answer = Ok (reply_bytes (plain 200 [])) }

abbrev pub sent_in_vain : LinkCall
sent_in_vain = record { sent = sending_of (message 2); answer = Err link_no.Failed }

abbrev exchange_of : Message → Option (List ℕ) → Exchange
exchange_of m back = record { to = (sending_of m).to; asked = (sending_of m).bytes; back = back }

-- a link with these known exchanges, after a number of calls, which never failed
abbrev pub link_with : List Exchange → ℕ → LinkState
link_with exchanges calls = record { exchanges = Some exchanges; calls = calls; faults = 0 }

both_calls_are_told : after_calls (Some []) (asked_and_answered ∷ sent_in_vain ∷ []) ≡ Some (exchange_of (message 1) (Some (reply_bytes (plain 200 []))) ∷ exchange_of (message 2) None ∷ [])
both_calls_are_told = refl

two_steps_on : grown_by 2 5 ≡ 7
two_steps_on = refl

one_of_them_failed : failed_calls (asked_and_answered ∷ sent_in_vain ∷ []) ≡ 1
one_of_them_failed = refl

-- a link with unknown exchanges took both calls
took_both_calls : TookCalls (untold_link 3 0) (untold_link 5 1) (asked_and_answered ∷ sent_in_vain ∷ [])
took_both_calls = record { told = refl; counted = refl; later = omega arith; failed = omega arith }

not_took-a_call_that_is_not_counted : TookCalls (untold_link 3 0) (untold_link 3 0) (asked_and_answered ∷ []) → ⊥
not_took-a_call_that_is_not_counted took = let e : 3 ≡ 4 = took.counted in absurd (omega (arith, e))

not_took-a_failure_without_a_fault : TookCalls (untold_link 3 0) (untold_link 4 0) (sent_in_vain ∷ []) → ⊥
not_took-a_failure_without_a_fault took = let rose : 1 ≤ 0 = took.failed in absurd (omega (arith, rose))

-- ---- steps

abbrev pub History : Type 0
History = List (Pair ℕ ℕ)

abbrev pub Step : Type 0
Step = Stepped ℕ ℕ

-- the clock returns the number of its reading, and the draw returns words of one number each
abbrev pub moments : ℕ → Option ℕ
moments reading = Some reading

abbrev pub words : ℕ → Option Word
words number = Some (number ∷ [])

-- a step at a reading
abbrev pub step_at : ℕ → History → ℕ → ℕ → Step
step_at reading before asked reply = record {
  before = before;
  at = reading;
  fresh = ((4 * reading + 0) ∷ []) ∷ ((4 * reading + 1) ∷ []) ∷ ((4 * reading + 2) ∷ []) ∷ ((4 * reading + 3) ∷ []) ∷ [];
  asked = asked;
  reply = reply;
}

-- a step alone, and a step with a question and the one after it
abbrev pub lone : Step
lone = step_at 0 [] 1 1

abbrev pub step1 : Step
step1 = step_at 0 [] 1 0

abbrev pub step2 : Step
step2 = step_at 1 (history_after step1) 200 2

its_call-at_place_2 : (called_of step2).place ≡ 2
its_call-at_place_2 = refl

pub its_words : (reading : ℕ) (before : History) (asked reply k : ℕ) → k < 4 → IsTold (words (4 * reading + k)) (fresh_word (step_at reading before asked reply).fresh k)
its_words reading before asked reply zero low = refl
its_words reading before asked reply (suc zero) low = refl
its_words reading before asked reply (suc (suc zero)) low = refl
its_words reading before asked reply (suc (suc (suc zero))) low = refl
its_words reading before asked reply (suc (suc (suc (suc k)))) low = absurd (omega arith)

pub drawn-at_its_reading : (reading : ℕ) (before : History) (asked reply : ℕ) → IsDrawn moments words reading (step_at reading before asked reply)
drawn-at_its_reading reading before asked reply = record { moment = refl; fresh = its_words reading before asked reply }

too_heavy : IsFull manner.weighs limit (history_after step1) 268435456
too_heavy = omega arith

not_too_heavy : IsFull manner.weighs limit (history_after step1) 268435455 → ⊥
not_too_heavy full = let heavy : 268435456 < 1 + 268435455 = full in absurd (omega (arith, heavy))

not_no_step-for_the_link : IsNoStep {R = ℕ} manner.weighs limit [] 268435457 Link → ⊥
not_no_step-for_the_link is = is

-- ---- what was done for a connection

abbrev pub first_reply : History → ℕ
first_reply [] = 0
first_reply (p ∷ history) = p.reply

both_lie : LieBehind [] (history_after step2) (step1 ∷ step2 ∷ [])
both_lie = (([], refl), (([], refl), ([], refl)))

not_lies-with_another_reply : LieBehind [] (history_after (step_at 0 [] 1 2)) (lone ∷ []) → ⊥
not_lies-with_another_reply lie = let e : 2 ≡ 1 = ap (λ (h : History). first_reply h) lie.1.1 in absurd (omega (arith, e))

not_lie-in_another_order : LieBehind [] (history_after step2) (step2 ∷ step1 ∷ []) → ⊥
not_lie-in_another_order lie = let e : 0 ≡ suc (suc (length lie.1.0.0)) = ap (λ (h : History). length h) lie.1.0.1 in absurd (omega (arith, e))

drawn-one_after_another : DrawnFrom moments words 0 (step1 ∷ step2 ∷ [])
drawn-one_after_another = (drawn-at_its_reading 0 [] 1 0, (drawn-at_its_reading 1 (history_after step1) 200 2, tt))

not_drawn-twice_at_one_reading : DrawnFrom moments words 0 (step1 ∷ step1 ∷ []) → ⊥
not_drawn-twice_at_one_reading drawn = let e : 0 ≡ 1 = drawn.1.0.moment in absurd (omega (arith, e))

-- any pass that knows this and no more
module _ (any : Pass History ℕ ℕ) where
  abbrev pub knows : History → List (Called (Pair ℕ ℕ)) → Pass History ℕ ℕ
  knows front calls = record any { seat = record any.seat { me = (idle (record { number = 0; start = []; front = front; calls = calls } ∷ []), []) } }

  made : Made (knows [] []) (knows (history_after step1) (called_of step1 ∷ [])) step1
  made = record { later = ([], refl); front = refl; calls = refl }

  made_both : MadeAll (knows [] []) (knows (history_after step2) (called_of step1 ∷ called_of step2 ∷ [])) (step1 ∷ step2 ∷ [])
  made_both = record { later = (history_after step2, refl); lie = both_lie; calls = refl }

  not_made-without_its_call : MadeAll (knows [] []) (knows (history_after step1) []) (step1 ∷ []) → ⊥
  not_made-without_its_call all = let e : 0 ≡ 1 = ap (λ (l : List (Called (Pair ℕ ℕ))). length l) all.calls in absurd (omega (arith, e))

  did-two_steps : Did (knows [] []) (knows (history_after step2) (called_of step1 ∷ called_of step2 ∷ [])) (link_with [] 0) (link_with (exchange_of (message 1) (Some (reply_bytes (plain 200 []))) ∷ []) 1) moments (λ i. Some (i + 2)) words (λ i. Some ((i + 8) ∷ [])) (record { steps = step1 ∷ step2 ∷ []; calls = asked_and_answered ∷ []; readings = 2 })
  did-two_steps = record { made = made_both; sent = record { told = refl; counted = refl; later = omega arith; failed = omega arith }; drawn = drawn-one_after_another; read = omega arith; clock = λ i. refl; draw = λ i. refl }

  not_did-two_steps_with_one_reading : (old new : Pass History ℕ ℕ) (calls : List LinkCall) → Did old new (link_with [] 0) (link_with [] 0) moments moments words words (record { steps = step1 ∷ step2 ∷ []; calls = calls; readings = 1 }) → ⊥
  not_did-two_steps_with_one_reading old new calls did = let two : 2 ≤ 1 = did.read in absurd (omega (arith, two))

-- ---- one connection

asked-the_length_of_its_path : IsAsked manner (Some get_text) (Some []) 1
asked-the_length_of_its_path = ((_, record { head = get_text; body = []; given = refl; request = a_request }, refl), refl)

busy-at_a_password : Cause proving limit (Some get_text) (Some []) 0 0 [] [] [] (Err Busy)
busy-at_a_password = (refl, refl, (_, record { head = get_text; body = []; given = refl; request = a_request }, refl))

not_busy-without_a_password : Cause manner limit (Some get_text) (Some []) 0 0 [] [] [] (Err Busy) → ⊥
not_busy-without_a_password cause = let e : false ≡ true = cause.2.2 in absurd (cc e)

unasked-three_bytes : IsUnasked manner (Some (codes "GET")) (Some []) 0 0 http_no.EndedEarly
unasked-three_bytes = record {
  refused = record { bytes = codes "GET"; given = refl; cause = (refl, inl (omega arith, unended (codes "GET") refl)) };
  other = λ e. cc e;
  failed = λ e. absurd (cc e);
}

not_unasked-without_memory : IsUnasked manner (Some []) (Some []) 0 0 http_no.NoMemory → ⊥
not_unasked-without_memory unasked = unasked.other refl

abbrev ok_bytes : List ℕ
ok_bytes = reply_bytes (plain 200 [])

answered-with_200 : IsAnswer ok_bytes (record { status = 200; body = 10 ∷ [] })
answered-with_200 = sent (plain 200 []) (record { low = omega arith; high = omega arith; location = refl; cookies = refl; few = omega arith; challenge = refl; short = omega arith })

heard-its_answer : IsPeerAnswer (Ok ok_bytes) (Ok (record { status = 200; body = 10 ∷ [] }))
heard-its_answer = answered-with_200

not_heard-what_the_link_did_not_give : IsPeerAnswer (Err link_no.Failed) (Err Peer) → ⊥
not_heard-what_the_link_did_not_give is = is

-- the question of the reply 0
asks-its_question : Asks manner 0 asked_and_answered
asks-its_question = (message 1, refl, refl)

not_asks-without_a_question : Asks manner 1 asked_and_answered → ⊥
not_asks-without_a_question asks = let e : None ≡ Some asks.0 = asks.1 in absurd cc

asked_back-the_status : IsAskedBack manner 0 asked_and_answered 200
asked_back-the_status = ((ok_bytes, record { status = 200; body = 10 ∷ [] }, refl, answered-with_200, refl), refl)

abbrev answered_404 : LinkCall
answered_404 = record { sent = sending_of (message 1); answer = Ok (reply_bytes (plain 404 [])) }

too_large-the_status_404 : LeadsToTooLarge manner 0 [] (answered_404 ∷ [])
too_large-the_status_404 = (
  404,
  (
    reply_bytes (plain 404 []),
    record { status = 404; body = 10 ∷ [] },
    refl,
    sent (plain 404 []) (record { low = omega arith; high = omega arith; location = refl; cookies = refl; few = omega arith; challenge = refl; short = omega arith }),
    refl,
  ),
  refl,
)

not_too_large-without_a_call : LeadsToTooLarge manner 0 [] [] → ⊥
not_too_large-without_a_call is = is

run-of_two_steps : IsRun manner (Some get_text) (Some []) (step1 ∷ step2 ∷ []) (asked_and_answered ∷ [])
run-of_two_steps = (asked-the_length_of_its_path, (asks-its_question, asked_back-the_status, tt))

not_run-a_step_without_a_question : IsRun manner (Some get_text) (Some []) (lone ∷ lone ∷ []) (asked_and_answered ∷ []) → ⊥
not_run-a_step_without_a_question run = not_asks-without_a_question run.1.0

not_last-a_reply_that_asks : IsLastReply manner (step1 ∷ []) 0 → ⊥
not_last-a_reply_that_asks last = let e : Some (message 1) ≡ None = last.4 in absurd cc

leads-to_its_status : LeadsTo manner 0 [] (asked_and_answered ∷ []) 200
leads-to_its_status = (asks-its_question, asked_back-the_status)

not_leads-without_a_call : LeadsTo manner 0 [] [] 200 → ⊥
not_leads-without_a_call is = is

abbrev asked_in_vain : LinkCall
asked_in_vain = record { sent = sending_of (message 1); answer = Err link_no.Failed }

caused-by_the_link : Cause manner limit (Some get_text) (Some []) 0 0 (history_after step1) (step1 ∷ []) (asked_in_vain ∷ []) (Err Link)
caused-by_the_link = (asked_in_vain, ([], refl, refl), refl)

abbrev heavy : History
heavy = history_after (step_at 0 [] 268435456 1)

stopped-by_its_weight : IsStopped manner limit (Some get_text) (Some []) heavy [] []
stopped-by_its_weight = record { before = heavy; asked = 1; next = (refl, asked-the_length_of_its_path); seen = ([], refl); full = omega arith }

abbrev pub came : List ℕ → Connection Stream Stream
came bytes = record { source = stream bytes; sink = stream [] }

abbrev pub went : List ℕ → Connection Stream Stream
went bytes = record { source = stream []; sink = stream bytes }

abbrev pub done_in : List Step → List LinkCall → Work ℕ ℕ
done_in steps calls = record { steps = steps; calls = calls; readings = length steps }

pub served-a_reply : Serves manner limit held failures held failures (history_after lone) (came get_text) (went (bytes_by manner 1)) (done_in (lone ∷ []) []) (record { places = 1; end = end.Written })
served-a_reply =
    record { outcome = Ok 1; questions = []; notices = []; calls = refl; sent = refl; run = (asked-the_length_of_its_path, tt); cause = ([], lone, refl, refl, refl); wrote = inl (refl, refl); lie = (([], refl), ([], refl)); places = refl; few = omega arith }

-- a question is put and answered, and the notice of the last reply is sent in vain
served-a_question : Serves manner limit held failures held failures (history_after step2) (came get_text) (went (bytes_by manner 2)) (done_in (step1 ∷ step2 ∷ []) (asked_and_answered ∷ sent_in_vain ∷ [])) (record { places = 2; end = end.Written })
served-a_question =
    record { outcome = Ok 2; questions = asked_and_answered ∷ []; notices = sent_in_vain ∷ []; calls = refl; sent = refl; run = run-of_two_steps; cause = (step1 ∷ [], step2, refl, refl, refl); wrote = inl (refl, refl); lie = both_lie; places = refl; few = omega arith }

served-a_refusal : Serves manner limit held failures held failures [] (came (codes "GET")) (went []) (done_in [] []) (record { places = 0; end = end.Http http_no.EndedEarly })
unfolding bytes_without refusal_bytes
served-a_refusal =
    record { outcome = Err (Http http_no.EndedEarly); questions = []; notices = []; calls = refl; sent = refl; run = refl; cause = (refl, unasked-three_bytes); wrote = (refl, refl); lie = ([], refl); places = refl; few = omega arith }

not_served-another_reply_than_the_history_has : Serves manner limit held failures held failures (history_after (step_at 0 [] 1 2)) (came get_text) (went (bytes_by manner 1)) (done_in (lone ∷ []) []) (record { places = 1; end = end.Written }) → ⊥
not_served-another_reply_than_the_history_has s = not_lies-with_another_reply s.lie

not_served-two_places_for_one_step : Serves manner limit held failures held failures (history_after lone) (came get_text) (went (bytes_by manner 1)) (done_in (lone ∷ []) []) (record { places = 2; end = end.Written }) → ⊥
not_served-two_places_for_one_step s = let e : 2 ≡ 1 = s.places in absurd (omega (arith, e))

no_refusal_after_a_step : (outcome : Result ℕ NoReply) → Cause manner limit (Some get_text) (Some []) 0 0 (history_after lone) (lone ∷ []) [] outcome → end_of outcome ≢ end.Http http_no.BadHead
no_refusal_after_a_step (Ok reply) cause e = absurd cc
no_refusal_after_a_step (Err NoMemory) cause e = absurd cc
no_refusal_after_a_step (Err (Http why)) cause e = let none : lone ∷ [] ≡ [] = cause.0 in absurd cc
no_refusal_after_a_step (Err Link) cause e = absurd cc
no_refusal_after_a_step (Err Peer) cause e = absurd cc
no_refusal_after_a_step (Err TooLarge) cause e = absurd cc
no_refusal_after_a_step (Err Busy) cause e = absurd cc
no_refusal_after_a_step (Err Full) cause e = absurd cc
