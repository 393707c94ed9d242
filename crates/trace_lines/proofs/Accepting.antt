-- Lines are read one after another, up to the first bad one.
use Rattle.std.proofs.Common.{◌≡◌, ℕ, suc, ◌+◌, List, [], ◌∷◌, ◌++◌, length, reverse, Option, Result, Ok, Err, refl, sym, ap, subst, ◌∙◌, arith}
use Rattle.std.proofs.lemmas.List.{reverse-reverse, reverse-append}
use Rattle.client_registry.specs.Configuration.{Configuration}
use Rattle.trace_lines.specs.declared.no.Fault.{Fault}
use Rattle.trace_lines.specs.declared.no.TraceNo.{TraceNo}
use Rattle.trace_lines.specs.declared.line.Line.{Line}
use Rattle.trace_lines.specs.Faults.{IsLeast, refusal_of}
use Rattle.trace_lines.specs.Guilt.{line_faults}
use Rattle.trace_lines.specs.Said.{line_said}
use Rattle.trace_lines.specs.Trace.{line_read, added, onward, lines_read, AreAccepted}
use Rattle.trace_lines.proofs.LineReading.{line_guiltless, line_says, line_refused, guiltless_read, guilty_refused}

-- each of these lines has no fault after those before it, and they parse to these in the end; the oldest first
abbrev pub Goes : Configuration → List Line → List (List ℕ) → List Line → Type 0
Goes c before [] after = after ≡ before
Goes c before (line ∷ lines) after = (line_faults c before line ≡ []) × Goes c (added (line_said c line) before) lines after

-- ---- lines that are read

pub ok_same : {A E : Type 0} (r : Result A E) (x y : A) → r ≡ Ok x → r ≡ Ok y → x ≡ y
ok_same r x y h k = cc

go_on : (c : Configuration) (n : ℕ) (before : List Line) (line : List ℕ) (lines : List (List ℕ)) (after : List Line) (r : Result (Option Line) Fault) → line_read c before line ≡ r → ((said : Option Line) → lines_read c (n + 1) (added said before) lines ≡ Ok after → Goes c (added said before) lines after) → onward n r (λ said. lines_read c (n + 1) (added said before) lines) ≡ Ok after → Goes c before (line ∷ lines) after
go_on c n before line lines after (Ok said) is rest h =
    (line_guiltless c before line said is, subst (λ (s : Option Line). Goes c (added s before) lines after) (line_says c before line said is) (rest said h))
go_on c n before line lines after (Err e) is rest h = absurd (cc)

pub read_goes : (c : Configuration) (n : ℕ) (before : List Line) (lines : List (List ℕ)) (after : List Line) → lines_read c n before lines ≡ Ok after → Goes c before lines after
read_goes c n before [] after h = sym (ok_same (lines_read c n before []) before after refl h)
read_goes c n before (line ∷ lines) after h =
    go_on c n before line lines after (line_read c before line) refl (λ said is. read_goes c (n + 1) (added said before) lines after is) h

pub goes_read : (c : Configuration) (n : ℕ) (before : List Line) (lines : List (List ℕ)) (after : List Line) → Goes c before lines after → lines_read c n before lines ≡ Ok after
goes_read c n before [] after g = ap (λ x. Ok x) (sym g)
goes_read c n before (line ∷ lines) after g =
    subst (λ r. onward n r (λ said. lines_read c (n + 1) (added said before) lines) ≡ Ok after) (sym (guiltless_read c before line g.0))
    (goes_read c (n + 1) (added (line_said c line) before) lines after g.1)

-- ---- the first bad line

-- the lines are accepted up to one that is refused, for which this is the refusal
pub record StopsAt (c : Configuration) (n : ℕ) (before : List Line) (lines : List (List ℕ)) (why : TraceNo) : Type 0 where
  pub front : List (List ℕ)
  pub line : List ℕ
  pub rest : List (List ℕ)
  pub split : lines ≡ front ++ line ∷ rest
  pub middle : List Line
  pub goes : Goes c before front middle
  pub fault : Fault
  pub refused : IsLeast fault (line_faults c middle line)
  pub is : why ≡ refusal_of (n + length front) fault

pub err_same : {A E : Type 0} (r : Result A E) (x y : E) → r ≡ Err x → r ≡ Err y → x ≡ y
err_same r x y h k = cc

refused_why : (n : ℕ) (e : Fault) (why : TraceNo) → (let r : Result (List Line) TraceNo = Err (refusal_of n e) in r ≡ Err why) → why ≡ refusal_of n e
refused_why n e why h = let r : Result (List Line) TraceNo = Err (refusal_of n e) in sym (err_same r (refusal_of n e) why refl h)

stop_on : (c : Configuration) (n : ℕ) (before : List Line) (line : List ℕ) (lines : List (List ℕ)) (why : TraceNo) (r : Result (Option Line) Fault) → line_read c before line ≡ r → ((said : Option Line) → lines_read c (n + 1) (added said before) lines ≡ Err why → StopsAt c (n + 1) (added said before) lines why) → onward n r (λ said. lines_read c (n + 1) (added said before) lines) ≡ Err why → StopsAt c n before (line ∷ lines) why
stop_on c n before line lines why (Ok said) is rest h =
    let later = rest said h in
    let count : n + 1 + length later.front ≡ n + suc (length later.front) = omega arith in
    record {
      front = line ∷ later.front;
      line = later.line;
      rest = later.rest;
      split = ap (λ ls. line ∷ ls) later.split;
      middle = later.middle;
      goes = (line_guiltless c before line said is, subst (λ (s : Option Line). Goes c (added s before) later.front later.middle) (line_says c before line said is) later.goes);
      fault = later.fault;
      refused = later.refused;
      is = later.is ∙ ap (λ k. refusal_of k later.fault) count;
    }
stop_on c n before line lines why (Err e) is rest h =
    let count : n ≡ n + 0 = omega arith in
    record {
      front = [];
      line = line;
      rest = lines;
      split = refl;
      middle = before;
      goes = refl;
      fault = e;
      refused = line_refused c before line e is;
      is = refused_why n e why h ∙ ap (λ k. refusal_of k e) count;
    }

pub refused_stops : (c : Configuration) (n : ℕ) (before : List Line) (lines : List (List ℕ)) (why : TraceNo) → lines_read c n before lines ≡ Err why → StopsAt c n before lines why
refused_stops c n before [] why h = absurd (cc)
refused_stops c n before (line ∷ lines) why h =
    stop_on c n before line lines why (line_read c before line) refl (λ said is. refused_stops c (n + 1) (added said before) lines why is) h

pub stops_refused : (c : Configuration) (n : ℕ) (before : List Line) (front : List (List ℕ)) (line : List ℕ) (rest : List (List ℕ)) (middle : List Line) (fault : Fault) → Goes c before front middle → IsLeast fault (line_faults c middle line) → lines_read c n before (front ++ line ∷ rest) ≡ Err (refusal_of (n + length front) fault)
stops_refused c n before [] line rest middle fault goes bad =
    let here : IsLeast fault (line_faults c before line) = subst (λ (ls : List Line). IsLeast fault (line_faults c ls line)) goes bad in
    let count : n ≡ n + 0 = omega arith in
    ap (λ r. onward n r (λ said. lines_read c (n + 1) (added said before) rest)) (guilty_refused c before line fault here)
    ∙ ap (λ k. Err (refusal_of k fault)) count
stops_refused c n before (first ∷ front) line rest middle fault goes bad =
    let count : n + 1 + length front ≡ n + suc (length front) = omega arith in
    ap (λ r. onward n r (λ said. lines_read c (n + 1) (added said before) (front ++ line ∷ rest))) (guiltless_read c before first goes.0)
    ∙ stops_refused c (n + 1) (added (line_said c first) before) front line rest middle fault goes.1 bad
    ∙ ap (λ k. Err (refusal_of k fault)) count

-- ---- the same with the newest line first

one_more : (c : Configuration) (before : List Line) (front : List (List ℕ)) (middle : List Line) (line : List ℕ) → Goes c before front middle → line_faults c middle line ≡ [] → Goes c before (front ++ line ∷ []) (added (line_said c line) middle)
one_more c before [] middle line goes none =
    (subst (λ (ls : List Line). line_faults c ls line ≡ []) goes none, ap (λ ls. added (line_said c line) ls) goes)
one_more c before (first ∷ front) middle line goes none = (goes.0, one_more c (added (line_said c first) before) front middle line goes.1 none)

-- the last of lines that are accepted, after those before it
record GoesLast (c : Configuration) (before : List Line) (front : List (List ℕ)) (line : List ℕ) (after : List Line) : Type 0 where
  pub middle : List Line
  pub goes : Goes c before front middle
  pub none : line_faults c middle line ≡ []
  pub is : after ≡ added (line_said c line) middle

last_of : (c : Configuration) (before : List Line) (front : List (List ℕ)) (line : List ℕ) (after : List Line) → Goes c before (front ++ line ∷ []) after → GoesLast c before front line after
last_of c before [] line after goes = record { middle = before; goes = refl; none = goes.0; is = goes.1 }
last_of c before (first ∷ front) line after goes =
    let later = last_of c (added (line_said c first) before) front line after goes.1 in
    record { middle = later.middle; goes = (goes.0, later.goes); none = later.none; is = later.is }

newest_last : (line : List ℕ) (lines : List (List ℕ)) → reverse (line ∷ lines) ≡ reverse lines ++ line ∷ []
newest_last line lines = reverse-append (line ∷ []) lines

accepted_reversed : (c : Configuration) (lines : List (List ℕ)) (after : List Line) → AreAccepted c lines after → Goes c [] (reverse lines) after
accepted_reversed c [] after is = is
accepted_reversed c (line ∷ lines) after is =
    subst (λ ls. Goes c [] ls after) (sym (newest_last line lines))
    (subst (λ (ls : List Line). Goes c [] (reverse lines ++ line ∷ []) ls) (sym is.3)
    (one_more c [] (reverse lines) is.0 line (accepted_reversed c lines is.0 is.1) is.2))

reversed_accepted : (c : Configuration) (lines : List (List ℕ)) (after : List Line) → Goes c [] (reverse lines) after → AreAccepted c lines after
reversed_accepted c [] after goes = goes
reversed_accepted c (line ∷ lines) after goes =
    let last = last_of c [] (reverse lines) line after (subst (λ ls. Goes c [] ls after) (newest_last line lines) goes) in
    (last.middle, reversed_accepted c lines last.middle last.goes, last.none, last.is)

pub accepted_goes : (c : Configuration) (lines : List (List ℕ)) (after : List Line) → AreAccepted c (reverse lines) after → Goes c [] lines after
accepted_goes c lines after is = subst (λ ls. Goes c [] ls after) (reverse-reverse lines) (accepted_reversed c (reverse lines) after is)

pub goes_accepted : (c : Configuration) (lines : List (List ℕ)) (after : List Line) → Goes c [] lines after → AreAccepted c (reverse lines) after
goes_accepted c lines after goes = reversed_accepted c (reverse lines) after (subst (λ ls. Goes c [] ls after) (sym (reverse-reverse lines)) goes)
