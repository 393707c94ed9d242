use Rattle.std.proofs.Common.{◌≡◌, suc, ◌+◌, List, ◌∷◌, length, reverse, false, Option, Some, None, sym, ap, ◌∙◌, subst, arith}
use Rattle.std.specs.Vec.{vec_capacity}
use Rattle.std.proofs.lemmas.List.{length-reverse}
use Rattle.std.specs.Option.{option_or}
use Rattle.client_registry.specs.Configuration.{Configuration}
use Rattle.sso_places.specs.declared.types.Broken.{Broken}
use Rattle.running_world.specs.declared.kept.Kept.{Kept}
use Rattle.running_world.specs.Breaking.{judged_asked, clash_told}
use Rattle.running_world.specs.Foreknowing.{IsKnown, IsForeknownAt}
use Rattle.cookie_jars.specs.JarsFound.{Jarred}
use Rattle.running_world.specs.Running.{places_of}
use Rattle.sso_places.specs.Legal.{IsRole}
use Rattle.running_world.specs.Transcribed.{Transcribed, IsTranscript}
use Rattle.running_world.proofs.Transcribing.{none_behind, put, pushed}
use Rattle.running_world.proofs.transcript.Transcript.put.Goals as goal

pub invariant_of-self : goal.invariant_of-self
invariant_of-self c =
    let in_c : Configuration = c.self.inside.registry in
    let items : List Kept = c.self.inside.kept.items in
    let kept : List Kept = reverse items in
    let k : Kept = record { asked = Some c.args.asked; reply = c.args.reply } in
    let behind : c.self.inside.behind ≡ None =
    none_behind c.self.inside.settled c.self.inside.jars.ready (record { browser = c.args.asked.from; to = c.args.asked.to }) (length kept) (vec_capacity c.self.inside.kept) c.self.inside.behind (ap (λ (t : Transcribed). t.ready) c.self.view_is ∙ c.requires.ready) c.self.invariant.room in
    let R : Transcribed → Type 0 = λ t. IsRole t.registry c.args.asked.to in
    let J : Transcribed → Type 0 = λ t. c.args.judged ≡ judged_asked t.registry (places_of t.registry t.kept) c.args.asked.from c.args.asked.to c.args.asked.ask in
    let K : Transcribed → Type 0 = λ t. IsKnown t.registry c.args.fore in
    let F : Transcribed → Type 0 = λ t. IsForeknownAt t.registry (places_of t.registry t.kept) c.args.asked.at c.args.asked.to c.args.asked.ask c.args.fore in
    let number : c.len.result + 1 ≡ suc (length kept) = omega (arith, c.len.ensures, length-reverse items) in
    let B : Option Broken → Option Broken = λ o. option_or c.self.inside.broken (option_or c.args.judged o) in
    let broken : option_or c.self.inside.broken (option_or c.args.judged (clash_told c.self.inside.index.halves (suc (length kept)) c.args.reply)) ≡ c.first_of-self-inside.result =
    sym (c.first_of-self-inside.ensures ∙ ap (λ o. option_or c.self.inside.broken o) c.first_of.ensures ∙ ap B c.clash_in-clash.ensures ∙ ap (λ n. B (clash_told c.self.inside.index.halves n c.args.reply)) number) in
    let kept_is : k ∷ kept ≡ reverse c.push_reserved.new.self.items =
    sym (ap (λ (ks : List Kept). reverse ks) c.push_reserved.ensures.items ∙ pushed items k) in
    let T : List Kept → Type 0 = λ ks. IsTranscript in_c ks (vec_capacity c.push_reserved.new.self) c.set.new.self c.self.inside.index (Some c.args.fore) c.first_of-self-inside.result false in
    let U : Option Broken → Type 0 = λ b. IsTranscript in_c (k ∷ kept) (vec_capacity c.push_reserved.new.self) c.set.new.self c.self.inside.index (Some c.args.fore) b false in
    subst T kept_is
    (subst U broken
    (put in_c kept (vec_capacity c.self.inside.kept) c.self.inside.jars c.self.inside.index c.self.inside.behind c.self.inside.broken c.self.inside.settled c.self.invariant behind c.args.asked c.args.reply c.args.judged c.args.fore (vec_capacity c.push_reserved.new.self) c.set.new.self (ap (λ (j : Jarred). j.parties) c.set.ensures)
    (subst R (sym c.self.view_is) c.requires.role) c.requires.answers (subst J (sym c.self.view_is) c.requires.judged) (subst K (sym c.self.view_is) c.requires.known) (subst F (sym c.self.view_is) c.requires.fore)))
