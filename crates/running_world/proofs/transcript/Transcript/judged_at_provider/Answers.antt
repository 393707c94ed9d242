use Rattle.std.proofs.Common.{◌≡◌, suc, ◌+◌, List, length, reverse, None, sym, ap, ◌∙◌, subst, arith}
use Rattle.std.specs.Vec.{vec_capacity}
use Rattle.std.proofs.lemmas.List.{length-reverse}
use Rattle.client_registry.specs.Configuration.{Configuration}
use Rattle.op_exchange.specs.declared.ask.OpAsk.{OpAsk}
use Rattle.op_request.specs.Prepared.{prepared}
use Rattle.sso_places.specs.declared.types.To.TheVariants as to
use Rattle.sso_places.specs.Checked.{op_checked}
use Rattle.sso_places.specs.Cookies.{http_words}
use Rattle.sso_places.specs.Site.{own_site}
use Rattle.running_world.specs.declared.kept.Kept.{Kept}
use Rattle.running_world.specs.Judging.{judged}
use Rattle.running_world.specs.Running.{places_of}
use Rattle.running_world.specs.Transcribed.{Transcribed}
use Rattle.running_world.proofs.Transcribing.{none_behind, judged_next}
use Rattle.running_world.proofs.transcript.Transcript.judged_at_provider.Goals as goal

pub returns : goal.returns
returns c =
    let r : Configuration = c.self.inside.registry in
    let kept : List Kept = reverse c.self.inside.kept.items in
    let behind : c.self.inside.behind ≡ None =
    none_behind c.self.inside.settled c.self.inside.jars.ready (record { browser = c.args.from; to = to.Provider }) (length kept) (vec_capacity c.self.inside.kept) c.self.inside.behind (ap (λ (t : Transcribed). t.ready) c.self.view_is ∙ c.requires.ready) c.self.invariant.room in
    let J : Transcribed → Type 0 =
    λ t. c.verdict.result ≡ judged (own_site t.registry) (places_of t.registry t.kept) c.args.from (op_checked t.registry c.args.request.now (prepared t.registry c.args.request.now)) (http_words c.args.request.now) in
    let asked : c.args.asked.now ≡ prepared r c.args.request.now =
    c.requires.asked ∙ sym (ap (λ (t : Transcribed). prepared t.registry c.args.request.now) c.self.view_is) in
    let number : c.len.result + 1 ≡ suc (length kept) = omega (arith, c.len.ensures, length-reverse c.self.inside.kept.items) in
    subst J c.self.view_is
    (c.verdict.ensures
    ∙ judged_next r kept (vec_capacity c.self.inside.kept) c.self.inside.jars c.self.inside.index c.self.inside.behind c.self.inside.broken c.self.inside.settled c.self.invariant behind (c.len.result + 1) c.args.from c.in_ok-token.token
    (op_checked r c.args.request.now (prepared r c.args.request.now)) (http_words c.args.request.now) c.in_ok-forged.forged c.leaks-leaked.result number
    (c.in_ok-token.ensures.token ∙ ap (λ (a : OpAsk). op_checked r c.args.request.now a) asked) c.in_ok-forged.ensures c.leaks-leaked.ensures)
