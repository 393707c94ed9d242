use Rattle.std.proofs.Common.{subst}
use Rattle.cookie_jars.specs.JarMaps.{IsPut}
use Rattle.cookie_jars.proofs.Jarring.{JarList}
use Rattle.cookie_jars.proofs.jar_map.JarMap.add.Goals as goal

pub returns-clause-ok : goal.returns-clause-ok
returns-clause-ok c =
    let P : JarList → Type 0 = λ before. IsPut before c.insert.new.self.entries c.args.browser (record { first = c.args.first; second = c.args.second }) in
    subst P c.self.view_is c.in_ok-insert.ensures.updates.0
