use Rattle.std.proofs.Common.{◌≡◌, true, false, is_some, sym, ap, ◌∙◌, subst}
use Rattle.std.specs.Option.{option_copied_mut}
use Rattle.cookie_jars.specs.JarMaps.{has_jar, IsPut}
use Rattle.cookie_jars.proofs.Jarring.{JarList, put_jars}
use Rattle.cookie_jars.proofs.jar_map.JarMap.put.Goals as goal
use Rattle.cookie_jars.proofs.jar_map.JarMap.put.Goals.{in-Some, in_default}

is_put : (c : goal.Joined-get_mut) → IsPut c.args.self.now c.match-get_mut.self-inside.jars.entries c.args.browser c.args.jar
is_put c =
    let H : JarList → Type 0 = λ m. has_jar m c.args.browser ≡ true in
    let there : has_jar c.self.inside.jars.entries c.args.browser ≡ true = subst H (sym c.self.view_is) c.requires in
    let P : JarList → Type 0 = λ m. IsPut m c.match-get_mut.self-inside.jars.entries c.args.browser c.args.jar in
    subst P c.self.view_is (elim c.match-get_mut.branch [
      | in-Some w ↦
          (let after : JarList → Type 0 = λ m. IsPut c.self.inside.jars.entries m c.args.browser c.args.jar in
          let same : c.match-get_mut.self-inside.jars.entries ≡ (c.get_mut.follows.lender c.args.jar).entries = ap (λ i. i.jars.entries) w.self-inside-is in
          subst after (sym same) ((c.get_mut.follows.holds c.args.jar).3 there).0)
      | in_default w ↦
          (let no : true ≡ false = sym there ∙ ap (λ o. is_some o) (sym c.get_mut.ensures.value) ∙ ap (λ o. is_some (option_copied_mut o)) w.in_default.is in
          cc)
    ])

pub returns : goal.returns
returns c = λ other. put_jars c.args.self.now c.match-get_mut.self-inside.jars.entries c.args.browser c.args.jar (is_put c) other
