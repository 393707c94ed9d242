-- After each run of the machine, nothing was entered, redeemed or ended twice.
use Rattle.std.proofs.Common.{List, [], ◌∷◌}
use Rattle.sso_model.specs.Rows.{Machine, Step, begin, sign, answer, redeem, out, close, enter, see, drop, end, forget, lapse, unnamed}
use Rattle.sso_model.specs.Machine.{MayTake, after, after_all, IsRun, start}
use Rattle.sso_model.specs.Founded.{OnceEach}

step_keeps : (m : Machine) (step : Step) → OnceEach m → MayTake m step → OnceEach (after m step)
step_keeps m (begin row) once may = record { entered = once.entered; redeemed = once.redeemed; ended = once.ended }
step_keeps m (sign row) once may = record { entered = once.entered; redeemed = once.redeemed; ended = once.ended }
step_keeps m (answer row) once may = record { entered = once.entered; redeemed = once.redeemed; ended = once.ended }
step_keeps m (redeem event client) once may = record { entered = once.entered; redeemed = (may.1, once.redeemed); ended = once.ended }
step_keeps m (out row) once may = record { entered = once.entered; redeemed = once.redeemed; ended = once.ended }
step_keeps m (close sid) once may = record { entered = once.entered; redeemed = once.redeemed; ended = once.ended }
step_keeps m (enter row) once may = record { entered = (may.2, once.entered); redeemed = once.redeemed; ended = once.ended }
step_keeps m (see event client browser user) once may = once
step_keeps m (drop event client browser) once may = record { entered = once.entered; redeemed = once.redeemed; ended = once.ended }
step_keeps m (end row count) once may = record { entered = once.entered; redeemed = once.redeemed; ended = (may.1, once.ended) }
step_keeps m (forget row) once may = record { entered = once.entered; redeemed = once.redeemed; ended = once.ended }
step_keeps m (lapse event) once may = record { entered = once.entered; redeemed = once.redeemed; ended = once.ended }
step_keeps m unnamed once may = absurd may

run_keeps : (m : Machine) (steps : List Step) → OnceEach m → IsRun m steps → OnceEach (after_all m steps)
run_keeps m [] once run = once
run_keeps m (step ∷ steps) once run = run_keeps (after m step) steps (step_keeps m step once run.0) run.1

-- the law of the runs from the start
pub runs_once : (steps : List Step) → IsRun start steps → OnceEach (after_all start steps)
runs_once steps = run_keeps start steps (record { entered = tt; redeemed = tt; ended = tt })
