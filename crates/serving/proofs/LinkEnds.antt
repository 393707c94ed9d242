-- A connection ends because of the link only if a call of the link failed.
use Rattle.std.proofs.Common.{◌≡◌, ◌⊎◌, inl, inr, ℕ, ◌<◌, List, [], ◌∷◌, ◌++◌, Option, Some, None, Result, Ok, Err, sym, ◌∙◌, subst}
use Rattle.sso_base.specs.Faults.{Rose}
use Rattle.sso_base.specs.declared.history.Pair.{Pair}
use Rattle.server_desk.specs.declared.connection.Connection.{Connection}
use Rattle.server_desk.specs.Links.{LinkState}
use Rattle.serving.specs.declared.ends.Served as ends
use Rattle.serving.specs.declared.ends.ServedEnd.{ServedEnd}
use Rattle.serving.specs.declared.ends.ServedEnd.TheVariants as end
use Rattle.serving.specs.declared.no_reply.NoReply.{NoReply}
use Rattle.serving.specs.declared.no_reply.NoReply.TheVariants.{NoMemory, Http, Link, Peer, TooLarge, Busy, Full}
use Rattle.serving.specs.LinkCalls.{LinkCall, failures, TookCalls}
use Rattle.serving.specs.Manner.{Manner, bytes_by}
use Rattle.serving.specs.Serving.{Cause, Serves}
use Rattle.serving.specs.Steps.{Stepped}
use Rattle.serving.specs.Told.{bytes_of, end_of}
use Rattle.serving.specs.Work.{Work}
use Rattle.serving.specs.Working.{Service, calls_in, SomeEnded, ServesAll}
use Rattle.serving.specs.Writing.{Wrote}
use Rattle.serving.proofs.Calls.{took_failed, failed_last, failures_ahead, failures_behind}

-- the end is as wanted, or the sink failed
ends_as : {K : Type 0} (taken : K → Option (List ℕ)) (faults : K → ℕ) (old new : K) (bytes : Option (List ℕ)) (wanted is : ServedEnd)
    → Wrote taken faults old new bytes wanted is → (is ≡ wanted) ⊎ (is ≡ end.WriteFault)
ends_as taken faults old new None wanted is wrote = inl wrote.0
ends_as taken faults old new (Some bytes) wanted is (inl wrote) = inl wrote.0
ends_as taken faults old new (Some bytes) wanted is (inr wrote) = inr wrote.0

module _ {A R : Type 0} (m : Manner A R) (most : ℕ) where
  -- an outcome that ends so has a failed call as its cause
  failed_cause : (left left' : Option (List ℕ)) (before now : ℕ) (history : List (Pair A R))
      (steps : List (Stepped A R)) (questions notices : List LinkCall) (outcome : Result R NoReply)
      → Cause m most left left' before now history steps questions outcome → end_of outcome ≡ end.Link → 0 < failures (questions ++ notices)
  failed_cause left left' before now history steps questions notices (Ok reply) cause e = absurd (cc e)
  failed_cause left left' before now history steps questions notices (Err NoMemory) cause e = absurd (cc e)
  failed_cause left left' before now history steps questions notices (Err (Http why)) cause e = absurd (cc e)
  failed_cause left left' before now history steps questions notices (Err Link) cause e = failed_last cause.1.0 questions notices cause.0 cause.1.1 cause.2
  failed_cause left left' before now history steps questions notices (Err Peer) cause e = absurd (cc e)
  failed_cause left left' before now history steps questions notices (Err TooLarge) cause e = absurd (cc e)
  failed_cause left left' before now history steps questions notices (Err Busy) cause e = absurd (cc e)
  failed_cause left left' before now history steps questions notices (Err Full) cause e = absurd (cc e)

  module _ {S K : Type 0} (left : S → Option (List ℕ)) (read_faults : S → ℕ) (taken : K → Option (List ℕ)) (write_faults : K → ℕ) where
    failed_end : (history : List (Pair A R)) (came went : Connection S K) (w : Work A R) (served : ends.Served)
        (s : Serves m most left read_faults taken write_faults history came went w served)
        → (served.end ≡ end_of s.outcome) ⊎ (served.end ≡ end.WriteFault) → served.end ≡ end.Link → 0 < failures w.calls
    failed_end history came went w served s (inl as_wanted) e =
        subst (λ (calls : List LinkCall). 0 < failures calls) (sym s.calls)
        (failed_cause (left came.source) (left went.source) (read_faults came.source) (read_faults went.source) history
        w.steps s.questions s.notices s.outcome s.cause (sym as_wanted ∙ e))
    failed_end history came went w served s (inr fault) e = let other : end.WriteFault ≡ end.Link = sym fault ∙ e in absurd (cc other)

    -- one connection
    failed_call : (history : List (Pair A R)) (came went : Connection S K) (w : Work A R) (served : ends.Served)
        → Serves m most left read_faults taken write_faults history came went w served
        → served.end ≡ end.Link → 0 < failures w.calls
    failed_call history came went w served s e =
        failed_end history came went w served s
        (ends_as taken write_faults came.sink went.sink (bytes_of (bytes_by m) s.outcome) (end_of s.outcome) served.end s.wrote) e

    pub rose_by_one : (history : List (Pair A R)) (came went : Connection S K) (w : Work A R) (served : ends.Served) (link link' : LinkState)
        → TookCalls link link' w.calls
        → Serves m most left read_faults taken write_faults history came went w served → served.end ≡ end.Link → Rose link.faults link'.faults
    rose_by_one history came went w served link link' took s e = took_failed link link' w.calls took (failed_call history came went w served s e)

    -- several connections
    failed_calls : (history : List (Pair A R)) (services : List (Service S K A R)) → ServesAll m most left read_faults taken write_faults history services
        → SomeEnded end.Link services → 0 < failures (calls_in services)
    failed_calls history [] all some = absurd some
    failed_calls history (s ∷ services) all (inl e) =
        failures_ahead s.work.calls (calls_in services) (failed_call history s.came s.went s.work s.served all.0 e)
    failed_calls history (s ∷ services) all (inr some) =
        failures_behind s.work.calls (calls_in services) (failed_calls history services all.1 some)

    pub rose_by_some : (history : List (Pair A R)) (services : List (Service S K A R)) (link link' : LinkState) → TookCalls link link' (calls_in services)
        → ServesAll m most left read_faults taken write_faults history services → SomeEnded end.Link services → Rose link.faults link'.faults
    rose_by_some history services link link' took all some = took_failed link link' (calls_in services) took (failed_calls history services all some)
