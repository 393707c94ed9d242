-- The steps of a world, all together, are one run of the machine.
use Rattle.std.proofs.Common.{◌≡◌, List, [], ◌∷◌, ◌++◌, refl, sym, ◌∙◌, ap, subst}
use Rattle.sso_model.specs.Rows.{Machine, Step}
use Rattle.sso_model.specs.Machine.{start, after_all, IsRun}
use Rattle.sso_model.specs.Founded.{HoldsOnlyFounded, OnceEach}
use Rattle.sso_model.proofs.RunLaws.{run_append, after_append}
use Rattle.sso_model.proofs.FoundedRuns.{runs_founded}
use Rattle.sso_model.proofs.OnceRuns.{runs_once}
use Rattle.sso_places.specs.Site.{Site}
use Rattle.sso_places.specs.World.{World}
use Rattle.sso_places.specs.Reading.{steps_at, machine_of}
use Rattle.sso_places.specs.Agreement.{SignsOn}

abbrev all_steps : Site → World → List Step
all_steps s [] = []
all_steps s (x ∷ world) = all_steps s world ++ steps_at s world (machine_of s world) x

after_world : (s : Site) (world : World) → after_all start (all_steps s world) ≡ machine_of s world
after_world s [] = refl
after_world s (x ∷ world) =
    let second = steps_at s world (machine_of s world) x in
    let A : Machine → Machine = λ m. after_all m second in
    after_append start (all_steps s world) second ∙ ap A (after_world s world)

whole_run : (s : Site) (world : World) → SignsOn s world → IsRun start (all_steps s world)
unfolding SignsOn
whole_run s [] signs = tt
whole_run s (x ∷ world) signs =
    let second = steps_at s world (machine_of s world) x in
    let R : Machine → Type 0 = λ m. IsRun m second in
    run_append start (all_steps s world) second (whole_run s world signs.0) (subst R (sym (after_world s world)) signs.1)

-- what is true after every run of the machine is true for the machine of the world
pub founded : (s : Site) (world : World) → SignsOn s world → HoldsOnlyFounded (machine_of s world) × OnceEach (machine_of s world)
founded s world signs =
    let run = whole_run s world signs in
    let is = after_world s world in
    let F : Machine → Type 0 = λ m. HoldsOnlyFounded m in
    let O : Machine → Type 0 = λ m. OnceEach m in
    (subst F is (runs_founded (all_steps s world) run), subst O is (runs_once (all_steps s world) run))
