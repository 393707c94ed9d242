use Rattle.std.proofs.Common.{◌≡◌, false, List, [], reverse, None, sym, ap, ◌∙◌, subst}
use Rattle.std.specs.Vec.{vec_capacity}
use Rattle.running_world.specs.declared.kept.Kept.{Kept}
use Rattle.cookie_jars.specs.JarsFound.{Jarred}
use Rattle.running_world.specs.Transcribed.{IsTranscript}
use Rattle.running_world.proofs.Transcribing.{begun}
use Rattle.running_world.proofs.transcript.Transcript.new.Goals as goal

pub invariant_of-result : goal.invariant_of-result
invariant_of-result c =
    let empty : [] ≡ reverse c.new.result.items = sym (ap (λ (ks : List Kept). reverse ks) c.new.ensures.items) in
    let T : List Kept → Type 0 = λ ks. IsTranscript c.args.registry ks (vec_capacity c.new.result) c.in_ok-new.field-0 c.in_ok-new-2.field-0 None None false in
    subst T empty
    (begun c.args.registry (vec_capacity c.new.result) c.in_ok-new.field-0 c.in_ok-new-2.field-0 c.parties-parties.ensures.registry (ap (λ (j : Jarred). j.parties) c.in_ok-new.ensures ∙ c.parties-parties.ensures.count)
    (c.in_ok-new-2.ensures.count ∙ c.clients-clients.ensures.count) c.in_ok-new-2.ensures.set c.in_ok-new-2.ensures.wrote c.in_ok-new-2.ensures.issued)
