use Rattle.std.proofs.Common.{◌≡◌, false, List, [], ◌∷◌, ◌++◌, reverse, Option, None, refl, sym, ap, ◌∙◌, subst}
use Rattle.std.specs.Vec.{vec_capacity}
use Rattle.client_registry.specs.Configuration.{Configuration}
use Rattle.sso_places.specs.declared.types.WorldReply.TheVariants as reply
use Rattle.running_world.specs.declared.foreknown.Foreknown.{Foreknown}
use Rattle.running_world.specs.declared.kept.Kept.{Kept}
use Rattle.running_world.specs.declared.noting.Index.{Index}
use Rattle.running_world.specs.Indexed.{IsIndexed}
use Rattle.cookie_jars.specs.JarsFound.{Jarred}
use Rattle.running_world.specs.Running.{places_of}
use Rattle.running_world.specs.Transcribed.{IsTranscript}
use Rattle.running_world.proofs.Transcribing.{settled_so, skipped, pushed}
use Rattle.running_world.proofs.transcript.Transcript.skip.Goals as goal

pub invariant_of-self-2 : goal.invariant_of-self-2
invariant_of-self-2 c =
    let r : Configuration = c.self.inside.registry in
    let items : List Kept = c.self.inside.kept.items in
    let kept : List Kept = reverse items in
    let jars : Jarred = c.self.inside.jars in
    let index : Index = c.settle.new.index in
    let nothing : Kept = record { asked = None; reply = reply.Nothing } in
    let K : List Kept → Type 0 = λ ks. IsIndexed r index c.settle.new.behind (places_of r (reverse ks)) in
    let I : Option Foreknown → Type 0 = λ o. IsIndexed r index o (places_of r kept) in
    let none : c.settle.new.behind ≡ None = c.in_ok-settle.ensures.ok in
    let settled : IsTranscript r kept (vec_capacity c.self.inside.kept) jars index None c.self.inside.broken false =
    settled_so r kept (vec_capacity c.self.inside.kept) jars c.self.inside.index c.self.inside.behind c.self.inside.broken c.self.inside.settled c.self.invariant index None (vec_capacity c.self.inside.kept) jars false c.settle.ensures.count tt tt (subst I none (subst K c.deref.ensures.value c.settle.ensures.indexed)) refl tt in
    let kept_is : nothing ∷ kept ≡ reverse c.push_reserved.new.self.items =
    sym
    (ap (λ (ks : List Kept). reverse ks) (c.push_reserved.ensures.items ∙ ap (λ (ks : List Kept). ks ++ nothing ∷ []) c.make_room.ensures.items)
    ∙ pushed items nothing) in
    let T : List Kept → Type 0 = λ ks. IsTranscript r ks (vec_capacity c.push_reserved.new.self) jars index c.settle.new.behind c.self.inside.broken false in
    let B : Option Foreknown → Type 0 = λ o. IsTranscript r (nothing ∷ kept) (vec_capacity c.push_reserved.new.self) jars index o c.self.inside.broken false in
    subst T kept_is (subst B (sym none) (skipped r kept (vec_capacity c.self.inside.kept) jars index None c.self.inside.broken false settled refl (vec_capacity c.push_reserved.new.self)))
