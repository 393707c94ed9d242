-- Dead session identifiers: they stay until they are forgotten; and the runs in which they are forgotten, one after another.
use Rattle.std.proofs.Common.{◌≡◌, ◌≢◌, ℕ, eqb, not, Bool, true, false, cond, List, [], ◌∷◌, filter, map, inl, inr, refl, sym, ap, ◌∙◌, subst}
use Rattle.std.specs.List.{AllByRecursion}
use Rattle.std.specs.Str.{bytes_eq}
use Rattle.std.proofs.lemmas.Bool.{and_parts, and_from}
use Rattle.std.proofs.lemmas.Slice.Eq.{bytes_eq-Decides}
use Rattle.sso_model.specs.Lists.{Has}
use Rattle.sso_model.specs.Rows.{Sent, Dead, Live, Machine, Step, begin, sign, answer, redeem, out, close, enter, see, drop, end, forget, lapse, unnamed}
use Rattle.sso_model.specs.Machine.{MayTake, IsRun, after, after_all, dead_row, dead_of, is_dead, without_dead}
use Rattle.sso_model.proofs.ListLaws.{all_both, all_filter, has_filter, filter_has}
use Rattle.sso_model.proofs.NamedEnds.{bool_cases, same_number, number_same, filter_passes}

-- ---- rows are equal where both parts are

same_row : (row other : Dead) → is_dead row other ≡ true → other ≡ row
same_row row other h =
    let both = and_parts (eqb other.client row.client) (bytes_eq other.sid row.sid) h in
    let client : other.client ≡ row.client = same_number other.client row.client both.0 in
    let sid : other.sid ≡ row.sid = (bytes_eq-Decides other.sid row.sid).0 both.1 in
    λ i. record { client = client i; sid = sid i }

of_itself : (row : Dead) → is_dead row row ≡ true
of_itself row = and_from (eqb row.client row.client) (bytes_eq row.sid row.sid) (number_same row.client row.client refl) ((bytes_eq-Decides row.sid row.sid).1 refl)

-- the step that forgets one keeps another
not_of_other : (row other : Dead) → other ≢ row → not (is_dead row other) ≡ true
not_of_other row other differ = elim (bool_cases (is_dead row other)) [ inl same ↦ absurd (differ (same_row row other same)) | inr apart ↦ ap not apart ]

-- ---- a dead session identifier stays until it is forgotten

kept_without : (row gone : Dead) (rows : List Dead) → Has rows row → row ≢ gone → Has (without_dead gone rows) row
kept_without row gone rows has differ = has_filter (λ other. not (is_dead gone other)) rows row (not_of_other gone row differ) has

kept_with : (only : Bool) (new row : Dead) (rows : List Dead) → Has rows row → Has (cond only (new ∷ without_dead new rows) rows) row
kept_with true new row rows has =
    elim (bool_cases (is_dead new row)) [
      | inl same ↦ inl (sym (same_row new row same))
      | inr apart ↦ inr (has_filter (λ other. not (is_dead new other)) rows row (ap not apart) has)
    ]
kept_with false new row rows has = has

pub dead_stays : (m : Machine) (step : Step) (row : Dead) → Has m.dead row → (step ≡ forget row → ⊥) → Has (after m step).dead row
dead_stays m (begin new) row has other = has
dead_stays m (sign new) row has other = has
dead_stays m (answer new) row has other = has
dead_stays m (redeem event client) row has other = has
dead_stays m (out new) row has other = has
dead_stays m (close sid) row has other = has
dead_stays m (enter new) row has other = has
dead_stays m (see event client browser user) row has other = has
dead_stays m (drop event client browser) row has other = has
dead_stays m (end message count) row has other = kept_with message.only (dead_of message) row m.dead has
dead_stays m (forget gone) row has other = kept_without row gone m.dead has (λ same. other (ap forget (sym same)))
dead_stays m (lapse event) row has other = has
dead_stays m unnamed row has other = has

added : (only : Bool) (new : Dead) (rows : List Dead) → only ≡ true → Has (cond only (new ∷ without_dead new rows) rows) new
added only new rows is = subst (λ b. Has (cond b (new ∷ without_dead new rows) rows) new) (sym is) (inl refl)

pub dead_when_ended : (m : Machine) (message : Sent) (count : ℕ) → message.only ≡ true → Has (after m (end message count)).dead (dead_of message)
dead_when_ended m message count is = added message.only (dead_of message) m.dead is

pub not_entered : (m : Machine) (row : Live) → Has m.dead (dead_row row) → MayTake m (enter row) → ⊥
not_entered m row has may = may.3 has

pub forgotten : (m : Machine) (row : Dead) → Has (after m (forget row)).dead row → ⊥
forgotten m row has =
    let passes : not (is_dead row row) ≡ true = filter_passes (λ other. not (is_dead row other)) m.dead row has in
    let clash : false ≡ true = sym (ap not (of_itself row)) ∙ passes in
    cc

-- ---- no session identifier is dead twice at a client

abbrev pub DeadApart : List Dead → Type 0
DeadApart [] = Unit {0}
DeadApart (row ∷ rows) = AllByRecursion (λ (x : Dead). x ≢ row) rows × DeadApart rows

pub deads_filter : (test : Dead → Bool) (rows : List Dead) → DeadApart rows → DeadApart (filter test rows)
deads_filter test [] apart = tt
deads_filter test (row ∷ rows) apart =
    elim (test row) as (λ b. DeadApart (cond b (row ∷ filter test rows) (filter test rows))) [
      | true ↦ (all_filter (λ (x : Dead). x ≢ row) test rows apart.0, deads_filter test rows apart.1)
      | false ↦ deads_filter test rows apart.1
    ]

none_left : (row : Dead) (rows : List Dead) → AllByRecursion (λ (x : Dead). x ≢ row) (without_dead row rows)
none_left row [] = tt
none_left row (x ∷ rows) =
    let Kept : Bool → Type 0 = λ b. AllByRecursion (λ (y : Dead). y ≢ row) (cond (not b) (x ∷ without_dead row rows) (without_dead row rows)) in
    elim (bool_cases (is_dead row x)) [
      | inl same ↦ subst Kept (sym same) (none_left row rows)
      | inr apart ↦ subst Kept (sym apart) (λ equal. differs x row apart equal, none_left row rows)
    ]
  where
    differs : (y row : Dead) → is_dead row y ≡ false → y ≡ row → ⊥
    differs y row apart equal =
        let here : is_dead row y ≡ true = ap (is_dead row) equal ∙ of_itself row in
        let clash : false ≡ true = sym apart ∙ here in
        cc

pub deads_with : (only : Bool) (new : Dead) (rows : List Dead) → DeadApart rows → DeadApart (cond only (new ∷ without_dead new rows) rows)
deads_with true new rows apart = (none_left new rows, deads_filter (λ other. not (is_dead new other)) rows apart)
deads_with false new rows apart = apart

apart_after : (m : Machine) (step : Step) → DeadApart m.dead → DeadApart (after m step).dead
apart_after m (begin row) apart = apart
apart_after m (sign row) apart = apart
apart_after m (answer row) apart = apart
apart_after m (redeem event client) apart = apart
apart_after m (out row) apart = apart
apart_after m (close sid) apart = apart
apart_after m (enter row) apart = apart
apart_after m (see event client browser user) apart = apart
apart_after m (drop event client browser) apart = apart
apart_after m (end message count) apart = deads_with message.only (dead_of message) m.dead apart
apart_after m (forget row) apart = deads_filter (λ other. not (is_dead row other)) m.dead apart
apart_after m (lapse event) apart = apart
apart_after m unnamed apart = apart

-- after any steps
pub dead_apart : (m : Machine) (steps : List Step) → DeadApart m.dead → DeadApart (after_all m steps).dead
dead_apart m [] apart = apart
dead_apart m (step ∷ steps) apart = dead_apart (after m step) steps (apart_after m step apart)

-- ---- forgetting, one after another

-- the second rows without the first
without : List Dead → List Dead → List Dead
without [] rows = rows
without (gone ∷ more) rows = without more (without_dead gone rows)

leaves_without : (m : Machine) (gone : List Dead) → after_all m (map forget gone) ≡ record m { dead = without gone m.dead }
unfolding without
leaves_without m [] = refl
leaves_without m (row ∷ rows) = leaves_without (after m (forget row)) rows

forgets_are_run : (m : Machine) (gone : List Dead) → DeadApart gone → AllByRecursion (Has m.dead) gone → IsRun m (map forget gone)
forgets_are_run m [] apart there = tt
forgets_are_run m (row ∷ rows) apart there = (
  there.0,
  forgets_are_run (after m (forget row)) rows apart.1
      (all_both (λ (x : Dead). x ≢ row) (Has m.dead) (Has (without_dead row m.dead)) rows (λ x other has. kept_without x row m.dead has other) apart.0 there.1),
)

without_same : (row : Dead) (rows : List Dead) → AllByRecursion (λ (x : Dead). x ≢ row) rows → without_dead row rows ≡ rows
without_same row [] other = refl
without_same row (x ∷ rows) other =
    let KeptIf : Bool → List Dead = λ b. cond b (x ∷ without_dead row rows) (without_dead row rows) in
    ap KeptIf (not_of_other row x other.0) ∙ ap (λ (ys : List Dead). x ∷ ys) (without_same row rows other.1)

without_other : (gone : List Dead) (row : Dead) (rows : List Dead) → AllByRecursion (λ (x : Dead). x ≢ row) gone → without gone (row ∷ rows) ≡ row ∷ without gone rows
unfolding without
without_other [] row rows other = refl
without_other (first ∷ more) row rows other =
    let rest : List Dead = without_dead first rows in
    let KeptIf : Bool → List Dead = λ b. cond b (row ∷ rest) rest in
    let kept : without_dead first (row ∷ rows) ≡ row ∷ rest = ap KeptIf (not_of_other first row (λ same. other.0 (sym same))) in
    ap (without more) kept ∙ without_other more row rest other.1

without_passing : (test : Dead → Bool) (rows : List Dead) → DeadApart rows → without (filter test rows) rows ≡ filter (λ row. not (test row)) rows
unfolding without
without_passing test [] apart = refl
without_passing test (row ∷ rows) apart =
    let failing : List Dead = filter (λ x. not (test x)) rows in
    let right : Bool → List Dead = λ b. cond (not b) (row ∷ failing) failing in
    let left : Bool → List Dead = λ b. without (cond b (row ∷ filter test rows) (filter test rows)) (row ∷ rows) in
    elim (bool_cases (test row)) [
      | inl passes ↦
          let KeptIf : Bool → List Dead = λ b. cond (not b) (row ∷ without_dead row rows) (without_dead row rows) in
          let gone : without_dead row (row ∷ rows) ≡ rows = ap KeptIf (of_itself row) ∙ without_same row rows apart.0 in
          ap left passes ∙ ap (without (filter test rows)) gone ∙ without_passing test rows apart.1 ∙ sym (ap right passes)
      | inr fails ↦
          let others : AllByRecursion (λ (x : Dead). x ≢ row) (filter test rows) = all_filter (λ (x : Dead). x ≢ row) test rows apart.0 in
          ap left fails ∙ without_other (filter test rows) row rows others ∙ ap (λ (ys : List Dead). row ∷ ys) (without_passing test rows apart.1) ∙ sym (ap right fails)
    ]

-- the dead session identifiers that pass a test may be forgotten, one after the other
pub forgets_run : (m : Machine) (test : Dead → Bool) → DeadApart m.dead → IsRun m (map forget (filter test m.dead))
forgets_run m test apart = forgets_are_run m (filter test m.dead) (deads_filter test m.dead apart) (filter_has test m.dead)

-- what is left is the machine with the others
pub forgets_after : (m : Machine) (test : Dead → Bool) → DeadApart m.dead → after_all m (map forget (filter test m.dead)) ≡ record m { dead = filter (λ row. not (test row)) m.dead }
forgets_after m test apart = leaves_without m (filter test m.dead) ∙ ap (λ (rows : List Dead). record m { dead = rows }) (without_passing test m.dead apart)
