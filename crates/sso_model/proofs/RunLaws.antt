-- Runs that follow one another, and the runs in which sessions lapse: those leave the machine without these sessions.
use Rattle.std.proofs.Common.{◌≡◌, ◌≢◌, ℕ, ◌==◌, not, Bool, true, false, cond, List, [], ◌∷◌, ◌++◌, filter, map, inl, inr, refl, sym, ap, ◌∙◌}
use Rattle.std.proofs.lemmas.Bool.{eqb-true, eqb-false, cases_Bool}
use Rattle.std.specs.List.{AllByRecursion}
use Rattle.sso_model.specs.Lists.{Has}
use Rattle.sso_model.specs.Rows.{Live, Machine, Step, lapse}
use Rattle.sso_model.specs.Machine.{IsRun, after, after_all, is_of}
use Rattle.sso_model.proofs.ListLaws.{all_both, all_filter, all_append, has_filter, filter_has}

-- a run, and then a run from what it left, are one run
pub run_append : (m : Machine) (xs ys : List Step) → IsRun m xs → IsRun (after_all m xs) ys → IsRun m (xs ++ ys)
run_append m [] ys first second = second
run_append m (x ∷ xs) ys first second = (first.0, run_append (after m x) xs ys first.1 second)

-- steps leave what the later ones leave of what the earlier ones left
pub after_append : (m : Machine) (xs ys : List Step) → after_all m (xs ++ ys) ≡ after_all (after_all m xs) ys
after_append m [] ys = refl
after_append m (x ∷ xs) ys = after_append (after m x) xs ys

-- no two of these sessions are of one event
abbrev pub Apart : List Live → Type 0
Apart [] = Unit {0}
Apart (row ∷ rows) = AllByRecursion (λ (x : Live). x.event ≢ row.event) rows × Apart rows

-- nor are two of those that a test keeps
pub apart_filter : (test : Live → Bool) (rows : List Live) → Apart rows → Apart (filter test rows)
apart_filter test [] apart = tt
apart_filter test (row ∷ rows) apart =
    elim (test row) as (λ b. Apart (cond b (row ∷ filter test rows) (filter test rows))) [
      | true ↦ (all_filter (λ (x : Live). x.event ≢ row.event) test rows apart.0, apart_filter test rows apart.1)
      | false ↦ apart_filter test rows apart.1
    ]

-- a session of an event of its own may follow
pub apart_push : (rows : List Live) (row : Live) → Apart rows → AllByRecursion (λ (x : Live). x.event ≢ row.event) rows → Apart (rows ++ row ∷ [])
apart_push [] row apart other = (tt, tt)
apart_push (x ∷ rows) row apart other = (
  all_append (λ (y : Live). y.event ≢ x.event) rows (row ∷ []) apart.0 (λ same. other.0 (sym same), tt),
  apart_push rows row apart.1 other.1,
)

-- the step by which this session lapses
abbrev pub lapse_of : Live → Step
lapse_of row = lapse row.event

-- the step that takes one event's session away keeps that of another
not_of_other : (event : ℕ) (row : Live) → row.event ≢ event → not (is_of event row) ≡ true
not_of_other event row other = elim (cases_Bool (row.event == event)) [ inl same ↦ absurd (other (eqb-true row.event event same)) | inr e ↦ ap not e ]

-- and takes its own away
of_itself : (row : Live) → not (is_of row.event row) ≡ false
of_itself row = elim (cases_Bool (row.event == row.event)) [ inl e ↦ ap not e | inr e ↦ absurd (eqb-false row.event row.event e refl) ]

-- the sessions without those of one event
abbrev without_event : ℕ → List Live → List Live
without_event event rows = filter (λ row. not (is_of event row)) rows

-- the second sessions without those of the events of the first
without : List Live → List Live → List Live
without [] rows = rows
without (gone ∷ more) rows = without more (without_event gone.event rows)

-- that is what their lapses leave
leaves_without : (m : Machine) (gone : List Live) → after_all m (map lapse_of gone) ≡ record m { live = without gone m.live }
unfolding without
leaves_without m [] = refl
leaves_without m (row ∷ rows) = leaves_without (after m (lapse row.event)) rows

-- each of them is still there when its turn comes
lapses_are_run : (m : Machine) (gone : List Live) → Apart gone → AllByRecursion (Has m.live) gone → IsRun m (map lapse_of gone)
lapses_are_run m [] apart there = tt
lapses_are_run m (row ∷ rows) apart there = (
  (row, there.0, refl),
  lapses_are_run (after m (lapse row.event)) rows apart.1
      (all_both (λ (x : Live). x.event ≢ row.event) (Has m.live) (Has (without_event row.event m.live)) rows
      (λ x other has. has_filter (λ y. not (is_of row.event y)) m.live x (not_of_other row.event x other) has)
      apart.0 there.1),
)

-- an event that none is of takes none away
without_event_same : (event : ℕ) (rows : List Live) → AllByRecursion (λ (x : Live). x.event ≢ event) rows → without_event event rows ≡ rows
without_event_same event [] other = refl
without_event_same event (row ∷ rows) other =
    let KeptIf : Bool → List Live = λ b. cond b (row ∷ without_event event rows) (without_event event rows) in
    ap KeptIf (not_of_other event row other.0) ∙ ap (λ (ys : List Live). row ∷ ys) (without_event_same event rows other.1)

-- a session with its own event stays at the start
without_other : (gone : List Live) (row : Live) (rows : List Live) → AllByRecursion (λ (x : Live). x.event ≢ row.event) gone → without gone (row ∷ rows) ≡ row ∷ without gone rows
unfolding without
without_other [] row rows other = refl
without_other (first ∷ more) row rows other =
    let rest : List Live = without_event first.event rows in
    let KeptIf : Bool → List Live = λ b. cond b (row ∷ rest) rest in
    let kept : without_event first.event (row ∷ rows) ≡ row ∷ rest = ap KeptIf (not_of_other first.event row (λ same. other.0 (sym same))) in
    ap (without more) kept ∙ without_other more row rest other.1

-- those that pass a test, all taken away, leave those that fail it
without_passing : (test : Live → Bool) (rows : List Live) → Apart rows → without (filter test rows) rows ≡ filter (λ row. not (test row)) rows
unfolding without
without_passing test [] apart = refl
without_passing test (row ∷ rows) apart =
    let failing : List Live = filter (λ x. not (test x)) rows in
    let right : Bool → List Live = λ b. cond (not b) (row ∷ failing) failing in
    let left : Bool → List Live = λ b. without (cond b (row ∷ filter test rows) (filter test rows)) (row ∷ rows) in
    elim (cases_Bool (test row)) [
      | inl passes ↦
          let KeptIf : Bool → List Live = λ b. cond b (row ∷ without_event row.event rows) (without_event row.event rows) in
          let gone : without_event row.event (row ∷ rows) ≡ rows = ap KeptIf (of_itself row) ∙ without_event_same row.event rows apart.0 in
          ap left passes ∙ ap (without (filter test rows)) gone ∙ without_passing test rows apart.1 ∙ sym (ap right passes)
      | inr fails ↦
          let others : AllByRecursion (λ (x : Live). x.event ≢ row.event) (filter test rows) = all_filter (λ (x : Live). x.event ≢ row.event) test rows apart.0 in
          ap left fails ∙ without_other (filter test rows) row rows others ∙ ap (λ (ys : List Live). row ∷ ys) (without_passing test rows apart.1) ∙ sym (ap right fails)
    ]

-- the sessions that pass a test may lapse, one after the other
pub lapses_run : (m : Machine) (test : Live → Bool) → Apart m.live → IsRun m (map lapse_of (filter test m.live))
lapses_run m test apart = lapses_are_run m (filter test m.live) (apart_filter test m.live apart) (filter_has test m.live)

-- what they leave is the machine with the other sessions
pub lapses_after : (m : Machine) (test : Live → Bool) → Apart m.live → after_all m (map lapse_of (filter test m.live)) ≡ record m { live = filter (λ row. not (test row)) m.live }
lapses_after m test apart = leaves_without m (filter test m.live) ∙ ap (λ (rows : List Live). record m { live = rows }) (without_passing test m.live apart)
