-- What is sent at the end, and how a connection was served.
use Rattle.std.proofs.Common.{◌≡◌, ◌⊎◌, inl, inr, ℕ, ◌≤◌, List, [], map, length, Option, Some, Result, Ok, Err, refl, sym, ◌∙◌, subst}
use Rattle.sso_base.specs.declared.history.Pair.{Pair}
use Rattle.server_desk.specs.declared.connection.Connection.{Connection}
use Rattle.server_desk.specs.Links.{LinkState}
use Rattle.serving.specs.declared.ends.Served.{Served}
use Rattle.serving.specs.declared.ends.ServedEnd.{ServedEnd}
use Rattle.serving.specs.declared.ends.ServedEnd.TheVariants.{Written}
use Rattle.serving.specs.declared.no_reply.NoReply.{NoReply}
use Rattle.serving.specs.declared.no_reply.NoReply.TheVariants.{NoMemory}
use Rattle.serving.specs.declared.sending.Sending.{Sending}
use Rattle.serving.specs.LinkCalls.{LinkCall, sending_of, sent_by}
use Rattle.serving.specs.Manner.{Manner, bytes_by}
use Rattle.serving.specs.Serving.{IsRun, Cause, notices_of, Tells, Serves}
use Rattle.serving.specs.Told.{bytes_of, end_of}
use Rattle.serving.specs.Work.{Work, LieBehind}
use Rattle.serving.specs.Writing.{Wrote, WroteWithout}
use Rattle.serving.proofs.Calls.{SentSo, took_none}
use Rattle.serving.proofs.Doing.{with_calls}

module _ {A R K : Type 0} (m : Manner A R) (taken : K → Option (List ℕ)) (faults : K → ℕ) where
  pub tells_reply : (link link' : LinkState) (sink sink' : K) (reply : R) (end : ServedEnd) (page : List Sending) (bytes : List ℕ)
      → page ≡ map sending_of (m.notices reply) → bytes ≡ bytes_by m reply → SentSo link link' page → Wrote taken faults sink sink' (Some bytes) Written end
      → Tells m link link' taken faults sink sink' reply end
  tells_reply link link' sink sink' reply end page bytes notices is sent wrote = (
    Ok reply,
    sent.0,
    sent.2,
    sent.1 ∙ notices,
    inl refl,
    subst (λ (b : List ℕ). Wrote taken faults sink sink' (Some b) Written end) is wrote,
  )

  pub tells_memory : (link : LinkState) (sink sink' : K) (reply : R) (end : ServedEnd)
      → WroteWithout taken faults sink sink' NoMemory end → Tells m link link taken faults sink sink' reply end
  tells_memory link sink sink' reply end (inl wrote) = (Err NoMemory, [], took_none link, refl, inr refl, wrote)
  tells_memory link sink sink' reply end (inr wrote) = (Err NoMemory, [], took_none link, refl, inr refl, wrote)

module _ {A R S K : Type 0} (m : Manner A R) (most : ℕ) (left : S → Option (List ℕ)) (read_faults : S → ℕ) (taken : K → Option (List ℕ)) (write_faults : K → ℕ) where
  -- the cause of what came out, at a connection that came and went so
  abbrev pub CauseOf : List (Pair A R) → Connection S K → Connection S K → Work A R → Result R NoReply → Type 0
  CauseOf history came went w outcome = Cause m most (left came.source) (left went.source) (read_faults came.source) (read_faults went.source) history w.steps w.calls outcome

  told_cause : (history : List (Pair A R)) (came went : Connection S K) (w : Work A R) (reply : R) (outcome : Result R NoReply) → (outcome ≡ Ok reply) ⊎ (outcome ≡ Err NoMemory) → CauseOf history came went w (Ok reply) → CauseOf history came went w outcome
  told_cause history came went w reply outcome (inl is) cause = subst (λ (o : Result R NoReply). CauseOf history came went w o) (sym is) cause
  told_cause history came went w reply outcome (inr is) cause = subst (λ (o : Result R NoReply). CauseOf history came went w o) (sym is) tt

  serves : (history : List (Pair A R)) (came went : Connection S K) (w : Work A R) (served : Served) (outcome : Result R NoReply) (notices : List LinkCall) → LieBehind [] history w.steps
      → sent_by notices ≡ map sending_of (notices_of m outcome) → IsRun m (left came.source) (left went.source) w.steps w.calls → CauseOf history came went w outcome
      → Wrote taken write_faults came.sink went.sink (bytes_of (bytes_by m) outcome) (end_of outcome) served.end → served.places ≡ length w.steps → served.places ≤ 3
      → Serves m most left read_faults taken write_faults history came went (with_calls w notices) served
  serves history came went w served outcome notices lie sent run cause wrote places few = record {
    outcome = outcome;
    questions = w.calls;
    notices = notices;
    calls = refl;
    sent = sent;
    run = run;
    cause = cause;
    wrote = wrote;
    lie = lie;
    places = places;
    few = few;
  }

  pub serves_reply : (history : List (Pair A R)) (came went : Connection S K) (link link' : LinkState) (w : Work A R) (served : Served) (reply : R) → LieBehind [] history w.steps
      → (told : Tells m link link' taken write_faults came.sink went.sink reply served.end)
      → IsRun m (left came.source) (left went.source) w.steps w.calls → CauseOf history came went w (Ok reply) → served.places ≡ length w.steps → served.places ≤ 3
      → Serves m most left read_faults taken write_faults history came went (with_calls w told.1) served
  serves_reply history came went link link' w served reply lie told run cause places few =
      serves history came went w served told.0 told.1 lie told.3 run (told_cause history came went w reply told.0 told.4 cause) told.5 places few

  pub serves_without : (history : List (Pair A R)) (came went : Connection S K) (w : Work A R) (served : Served) (why : NoReply) → LieBehind [] history w.steps
      → WroteWithout taken write_faults came.sink went.sink why served.end
      → IsRun m (left came.source) (left went.source) w.steps w.calls → CauseOf history came went w (Err why) → served.places ≡ length w.steps → served.places ≤ 3
      → Serves m most left read_faults taken write_faults history came went (with_calls w []) served
  serves_without history came went w served why lie (inl wrote) run cause places few = serves history came went w served (Err why) [] lie refl run cause wrote places few
  serves_without history came went w served why lie (inr wrote) run cause places few = serves history came went w served (Err NoMemory) [] lie refl run tt wrote places few
