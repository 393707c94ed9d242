-- What lies in a history lies in each that it begins.
use Rattle.std.proofs.Common.{ℕ, List, [], ◌∷◌, ◌++◌, map, Option, Result, Ok, Err, refl, ap, sym, ◌∙◌}
use Rattle.std.proofs.lemmas.List.{append_assoc, map-append}
use Rattle.sso_base.specs.declared.history.Pair.{Pair}
use Rattle.server_desk.specs.declared.connection.Connection.{Connection}
use Rattle.turn_store.specs.declared.store.Pass.{Pass}
use Rattle.turn_store.specs.Places.{Begins}
use Rattle.turn_store.specs.Passes.{front_of, calls_of}
use Rattle.turn_store.proofs.Totals.{begins_on}
use Rattle.serving.specs.declared.ends.Served.{Served}
use Rattle.serving.specs.declared.no_reply.NoReply.{NoReply}
use Rattle.serving.specs.declared.no_reply.NoReply.TheVariants.{NoMemory, Http, Link, Peer, TooLarge, Busy, Full}
use Rattle.serving.specs.LinkCalls.{LinkCall}
use Rattle.serving.specs.Manner.{Manner}
use Rattle.serving.specs.Serving.{Cause, Serves}
use Rattle.serving.specs.Steps.{Stepped, history_after, called_of}
use Rattle.serving.specs.Work.{Work, LieBehind, MadeAll}

module _ {A R : Type 0} where
  pub lie_on : (f h k : List (Pair A R)) → Begins h k → (steps : List (Stepped A R)) → LieBehind f h steps → LieBehind f k steps
  lie_on f h k b [] lie = begins_on f h k lie b
  lie_on f h k b (s ∷ steps) lie = (lie.0, lie_on (history_after s) h k b steps lie.1)

  lie_from : (e f h : List (Pair A R)) → Begins e f → (steps : List (Stepped A R)) → LieBehind f h steps → LieBehind e h steps
  lie_from e f h b [] lie = begins_on e f h b lie
  lie_from e f h b (s ∷ steps) lie = (begins_on e f s.before b lie.0, lie.1)

  pub lie_at_all : (f h : List (Pair A R)) (steps : List (Stepped A R)) → LieBehind f h steps → LieBehind [] h steps
  lie_at_all f h steps lie = lie_from [] f h (f, refl) steps lie

  lie_both : (f g h : List (Pair A R)) (xs ys : List (Stepped A R)) → LieBehind f g xs → LieBehind g h ys → LieBehind f h (xs ++ ys)
  lie_both f g h [] ys a b = lie_from f g h a ys b
  lie_both f g h (x ∷ xs) ys a b = (a.0, lie_both (history_after x) g h xs ys a.1 b)

  -- first these steps were made, and then those
  pub made_both : {C : Type 0} (p q r : Pass C A R) (xs ys : List (Stepped A R)) → MadeAll p q xs → MadeAll q r ys → MadeAll p r (xs ++ ys)
  made_both p q r xs ys a b = record {
    later = begins_on (front_of p) (front_of q) (front_of r) a.later b.later;
    lie = lie_both (front_of p) (front_of q) (front_of r) xs ys a.lie b.lie;
    calls = b.calls ∙ ap (λ l. l ++ map called_of ys) a.calls ∙ append_assoc (calls_of p) (map called_of xs) (map called_of ys) ∙ sym (ap (λ l. calls_of p ++ l) (map-append called_of xs ys));
  }

  module _ (m : Manner A R) (most : ℕ) where
    cause_on : (left left' : Option (List ℕ)) (before now : ℕ) (h k : List (Pair A R)) → Begins h k → (steps : List (Stepped A R)) (calls : List LinkCall) (outcome : Result R NoReply)
        → Cause m most left left' before now h steps calls outcome → Cause m most left left' before now k steps calls outcome
    cause_on left left' before now h k b steps calls (Ok reply) c = c
    cause_on left left' before now h k b steps calls (Err NoMemory) c = c
    cause_on left left' before now h k b steps calls (Err (Http why)) c = c
    cause_on left left' before now h k b steps calls (Err Link) c = c
    cause_on left left' before now h k b steps calls (Err Peer) c = c
    cause_on left left' before now h k b steps calls (Err TooLarge) c = c
    cause_on left left' before now h k b steps calls (Err Busy) c = c
    cause_on left left' before now h k b steps calls (Err Full) c = record { before = c.before; asked = c.asked; next = c.next; seen = begins_on c.before h k c.seen b; full = c.full }

    pub serves_on : {S K : Type 0} (left : S → Option (List ℕ)) (read_faults : S → ℕ) (taken : K → Option (List ℕ)) (write_faults : K → ℕ)
        (h k : List (Pair A R)) (came went : Connection S K) (w : Work A R) (served : Served) → Begins h k
        → Serves m most left read_faults taken write_faults h came went w served → Serves m most left read_faults taken write_faults k came went w served
    serves_on left read_faults taken write_faults h k came went w served b s = record {
      outcome = s.outcome;
      questions = s.questions;
      notices = s.notices;
      calls = s.calls;
      sent = s.sent;
      run = s.run;
      cause = cause_on (left came.source) (left went.source) (read_faults came.source) (read_faults went.source) h k b w.steps s.questions s.outcome s.cause;
      wrote = s.wrote;
      lie = lie_on [] h k b w.steps s.lie;
      places = s.places;
      few = s.few;
    }
