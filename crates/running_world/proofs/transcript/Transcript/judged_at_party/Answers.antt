use Rattle.std.proofs.Common.{◌≡◌, ℕ, suc, ◌+◌, List, length, reverse, Option, None, unwrap_or, sym, ap, ◌∙◌, subst, arith}
use Rattle.std.specs.Vec.{vec_capacity}
use Rattle.std.proofs.lemmas.List.{length-reverse}
use Rattle.client_registry.specs.Configuration.{Configuration}
use Rattle.client_registry.specs.declared.records.Party.{Party}
use Rattle.client_registry.specs.Numbers.{no_party}
use Rattle.rp_exchange.specs.declared.ask.RpAsk.{RpAsk}
use Rattle.sso_places.specs.declared.types.To.TheVariants as to
use Rattle.sso_places.specs.Checked.{rp_checked}
use Rattle.sso_places.specs.Cookies.{party_words}
use Rattle.sso_places.specs.Legal.{party_prepared}
use Rattle.sso_places.specs.Site.{own_site, client_of_party}
use Rattle.running_world.specs.declared.kept.Kept.{Kept}
use Rattle.running_world.specs.Judging.{judged}
use Rattle.running_world.specs.Running.{places_of}
use Rattle.running_world.specs.Transcribed.{Transcribed}
use Rattle.running_world.proofs.Transcribing.{none_behind, judged_next}
use Rattle.running_world.proofs.transcript.Transcript.judged_at_party.Goals as goal

pub returns : goal.returns
returns c =
    let r : Configuration = c.self.inside.registry in
    let n : ℕ = c.args.party in
    let kept : List Kept = reverse c.self.inside.kept.items in
    let behind : c.self.inside.behind ≡ None =
    none_behind c.self.inside.settled c.self.inside.jars.ready (record { browser = c.args.from; to = to.Party n }) (length kept) (vec_capacity c.self.inside.kept) c.self.inside.behind (ap (λ (t : Transcribed). t.ready) c.self.view_is ∙ c.requires.ready) c.self.invariant.room in
    let J : Transcribed → Type 0 =
    λ t. c.verdict.result ≡ judged (own_site t.registry) (places_of t.registry t.kept) c.args.from (rp_checked (client_of_party (own_site t.registry) n) c.args.ask.now (party_prepared t.registry n c.args.ask.now)) (party_words c.args.ask.now) in
    let asked : c.args.asked.now ≡ party_prepared r n c.args.ask.now =
    c.requires.asked ∙ sym (ap (λ (t : Transcribed). party_prepared t.registry n c.args.ask.now) c.self.view_is) in
    let client : c.party.result.now.client ≡ client_of_party (own_site r) n =
    sym (ap (λ (o : Option Party). (unwrap_or o no_party).client) c.party.ensures) in
    let number : c.len.result + 1 ≡ suc (length kept) = omega (arith, c.len.ensures, length-reverse c.self.inside.kept.items) in
    subst J c.self.view_is
    (c.verdict.ensures
    ∙ judged_next r kept (vec_capacity c.self.inside.kept) c.self.inside.jars c.self.inside.index c.self.inside.behind c.self.inside.broken c.self.inside.settled c.self.invariant behind (c.len.result + 1) c.args.from c.in_ok-token.token
    (rp_checked (client_of_party (own_site r) n) c.args.ask.now (party_prepared r n c.args.ask.now)) (party_words c.args.ask.now) c.in_ok-forged.forged c.ask_leaks-leaked.result number
    (c.in_ok-token.ensures.token ∙ ap (λ m. rp_checked m c.args.ask.now c.args.asked.now) client ∙ ap (λ (a : RpAsk). rp_checked (client_of_party (own_site r) n) c.args.ask.now a) asked) c.in_ok-forged.ensures c.ask_leaks-leaked.ensures)
