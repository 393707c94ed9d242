use Rattle.std.proofs.Common.{◌≤◌, ℕ, sym, subst}
use Rattle.sso_base.specs.Journal.{most_pairs}
use Rattle.rp_core.proofs.Places.{few_places}
use Rattle.rp_core.proofs.state.RpCore.place.Goals as goal

pub returns-clause-few : goal.returns-clause-few
returns-clause-few c =
    let F : ℕ → Type 0 = λ n. n ≤ most_pairs in
    subst F (sym c.count.ensures) (few_places c.self.inside.setup c.self.inside.journal.pairs c.self.invariant.legal)
