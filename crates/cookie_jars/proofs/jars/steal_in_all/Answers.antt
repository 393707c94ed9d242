use Rattle.std.proofs.Common.{◌≡◌, ◌<◌, [], length, sym, ◌∙◌, subst}
use Rattle.std.proofs.lemmas.List.{length-set, get_or_default}
use Rattle.cookie_jars.specs.JarMaps.{jars_at}
use Rattle.cookie_jars.proofs.Jarring.{JarList, StolenIn, stolen_more}
use Rattle.cookie_jars.proofs.jars.steal_in_all.Goals as goal

pub loop-n-preserved : goal.loop-n-preserved
loop-n-preserved c =
    let maps = c.loop-n.maps.items in
    let n = c.loop-n.n in
    let low : n < length maps = subst (λ m. n < m) c.loop-n.invariant.all c.loop-n-test.true in
    let here : c.index_mut.result.now ≡ jars_at maps n = c.index_mut.ensures.value ∙ get_or_default maps n c.index_mut.result.now [] low in
    let P : JarList → Type 0 = λ was. StolenIn was c.steal_in.new.map c.args.thief c.args.owner in
    record {
      all = c.loop-n.invariant.all ∙ sym (length-set maps n c.steal_in.new.map);
      stolen = stolen_more c.args.maps.now.items maps n c.args.thief c.args.owner c.steal_in.new.map low (subst P here c.steal_in.ensures) c.loop-n.invariant.stolen;
    }
