-- After each run of the machine, each session that is held is founded.
use Rattle.std.proofs.Common.{List, [], ◌∷◌, inr, not}
use Rattle.std.specs.List.{AllByRecursion}
use Rattle.sso_model.specs.Lists.{Has}
use Rattle.sso_model.specs.Rows.{Began, Signed, Answered, Live, Machine, Step, begin, sign, answer, redeem, out, close, enter, see, drop, end, forget, lapse, unnamed}
use Rattle.sso_model.specs.Machine.{MayTake, after, after_all, IsRun, start, is_meant, is_of, signed_row, IsAnsweredFor}
use Rattle.sso_model.specs.Founded.{IsFounded, HoldsOnlyFounded}
use Rattle.sso_model.proofs.ListLaws.{all_weaker, all_has, all_filter, all_append}

-- the user of each answer had signed in, in the browser that was answered
abbrev AreSigned : List Signed → List Answered → Type 0
AreSigned signed answers = AllByRecursion (λ (a : Answered). Has signed (signed_row a)) answers

-- what each step keeps
record Invariant (m : Machine) : Type 0 where
  founded : HoldsOnlyFounded m
  signed : AreSigned m.signed m.answered

-- the second machine has each row of the first that a session is founded on
record HasMore (m n : Machine) : Type 0 where
  began : (row : Began) → Has m.began row → Has n.began row
  answered : (row : Answered) → Has m.answered row → Has n.answered row
  signed : (row : Signed) → Has m.signed row → Has n.signed row

-- an answer for a session stays one
abbrev answered_more : (m n : Machine) (row : Live) → HasMore m n → IsAnsweredFor m row → IsAnsweredFor n row
answered_more m n row more is = record {
  answered = is.answered;
  has = more.answered is.answered is.has;
  nonce = is.nonce;
  client = is.client;
  user = is.user;
  sid = is.sid;
}

-- what a session is founded on stays
founded_more : (m n : Machine) (rows : List Live) → HasMore m n → AllByRecursion (IsFounded m) rows → AllByRecursion (IsFounded n) rows
founded_more m n rows more =
    all_weaker (IsFounded m) (IsFounded n) rows
    (λ row is. record {
      began = more.began _ is.began;
      answered = answered_more m n row more is.answered;
      signed = more.signed (signed_row is.answered.answered) is.signed;
    })

-- no step takes such a row away
more_rows : (m : Machine) (step : Step) → HasMore m (after m step)
more_rows m (begin row) = record { began = λ _ has. inr has; answered = λ _ has. has; signed = λ _ has. has }
more_rows m (sign row) = record { began = λ _ has. has; answered = λ _ has. has; signed = λ _ has. inr has }
more_rows m (answer row) = record { began = λ _ has. has; answered = λ _ has. inr has; signed = λ _ has. has }
more_rows m (redeem event client) = record { began = λ _ has. has; answered = λ _ has. has; signed = λ _ has. has }
more_rows m (out row) = record { began = λ _ has. has; answered = λ _ has. has; signed = λ _ has. has }
more_rows m (close sid) = record { began = λ _ has. has; answered = λ _ has. has; signed = λ _ has. has }
more_rows m (enter row) = record { began = λ _ has. has; answered = λ _ has. has; signed = λ _ has. has }
more_rows m (see event client browser user) = record { began = λ _ has. has; answered = λ _ has. has; signed = λ _ has. has }
more_rows m (drop event client browser) = record { began = λ _ has. has; answered = λ _ has. has; signed = λ _ has. has }
more_rows m (end row count) = record { began = λ _ has. has; answered = λ _ has. has; signed = λ _ has. has }
more_rows m (forget row) = record { began = λ _ has. has; answered = λ _ has. has; signed = λ _ has. has }
more_rows m (lapse event) = record { began = λ _ has. has; answered = λ _ has. has; signed = λ _ has. has }
more_rows m unnamed = record { began = λ _ has. has; answered = λ _ has. has; signed = λ _ has. has }

-- the sessions that were held stay founded
still_founded : (m : Machine) (step : Step) → Invariant m → AllByRecursion (IsFounded (after m step)) m.live
still_founded m step is = founded_more m (after m step) m.live (more_rows m step) is.founded

step_keeps : (m : Machine) (step : Step) → Invariant m → MayTake m step → Invariant (after m step)
step_keeps m (begin row) is may = record { founded = still_founded m (begin row) is; signed = is.signed }
step_keeps m (sign row) is may = record {
  founded = still_founded m (sign row) is;
  signed = all_weaker (λ (a : Answered). Has m.signed (signed_row a)) (λ (a : Answered). Has (row ∷ m.signed) (signed_row a)) m.answered (λ _ has. inr has) is.signed;
}
step_keeps m (answer row) is may = record { founded = still_founded m (answer row) is; signed = (may.0, is.signed) }
step_keeps m (redeem event client) is may = record { founded = still_founded m (redeem event client) is; signed = is.signed }
step_keeps m (out row) is may = record { founded = still_founded m (out row) is; signed = is.signed }
step_keeps m (close sid) is may = record { founded = still_founded m (close sid) is; signed = is.signed }
step_keeps m (enter row) is may =
    let n : Machine = after m (enter row) in
    let entered : IsFounded n row = record {
      began = may.0;
      answered = answered_more m n row (more_rows m (enter row)) may.1;
      signed = all_has (λ (a : Answered). Has m.signed (signed_row a)) m.answered may.1.answered is.signed may.1.has;
    } in
    record { founded = all_append (IsFounded n) m.live (row ∷ []) (still_founded m (enter row) is) (entered, tt); signed = is.signed }
step_keeps m (see event client browser user) is may = is
step_keeps m (drop event client browser) is may = record {
  founded = all_filter (IsFounded (after m (drop event client browser))) (λ row. not (is_of event row)) m.live (still_founded m (drop event client browser) is);
  signed = is.signed;
}
step_keeps m (end message count) is may = record {
  founded = all_filter (IsFounded (after m (end message count))) (λ row. not (is_meant message row)) m.live (still_founded m (end message count) is);
  signed = is.signed;
}
step_keeps m (forget row) is may = record { founded = still_founded m (forget row) is; signed = is.signed }
step_keeps m (lapse event) is may = record {
  founded = all_filter (IsFounded (after m (lapse event))) (λ row. not (is_of event row)) m.live (still_founded m (lapse event) is);
  signed = is.signed;
}
step_keeps m unnamed is may = absurd may

run_keeps : (m : Machine) (steps : List Step) → Invariant m → IsRun m steps → Invariant (after_all m steps)
run_keeps m [] is run = is
run_keeps m (step ∷ steps) is run = run_keeps (after m step) steps (step_keeps m step is run.0) run.1

-- the law of the runs from the start
pub runs_founded : (steps : List Step) → IsRun start steps → HoldsOnlyFounded (after_all start steps)
runs_founded steps run = (run_keeps start steps (record { founded = tt; signed = tt }) run).founded
