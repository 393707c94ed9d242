use Rattle.std.proofs.Common.{◌≡◌, ◌<◌, ◌+◌, Err, ap, ◌∙◌, subst}
use Rattle.std.proofs.lemmas.Result.{err_from_is_err_and}
use Rattle.sso_base.specs.Journal.{most_of}
use Rattle.sso_base.specs.declared.step.CoreNo.{CoreNo}
use Rattle.sso_base.specs.declared.step.CoreNo.TheVariants.{JournalFull}
use Rattle.sso_base.proofs.Refusals.{returned_error}
use Rattle.client_registry.specs.Configuration.{Configuration}
use Rattle.rp_exchange.specs.declared.ask.RpAsk.{RpAsk}
use Rattle.rp_exchange.specs.Weight.{ask_weight}
use Rattle.sso_places.specs.Legal.{party_prepared}
use Rattle.running_world.specs.Transcribed.{Transcribed}
use Rattle.running_world.proofs.asking.ask_party.Goals as goal

pub returns-in_err-told-clause-full : goal.returns-in_err-told-clause-full
returns-in_err-told-clause-full c =
    λ role w there is.
    (let asked : c.in_ok-asked.asked ≡ party_prepared c.args.transcript.now.registry c.args.party c.args.ask =
    c.in_ok-asked.ensures ∙ ap (λ (d : Configuration). party_prepared d c.args.party c.args.ask) (c.registry.ensures.registry ∙ ap (λ (t : Transcribed). t.registry) c.prepare.ensures.same) in
    let returned = err_from_is_err_and c.from_residual-in_err-told.result c.from_residual-in_err-told.ensures.1 in
    let refused : c.in_err-told.field-0.0 ≡ JournalFull w = returned_error c.from_residual-in_err-told.result returned.0 c.in_err-told.field-0.0 (JournalFull w) returned.1 returned.2 is in
    let full = c.in_err-told.ensures.full role w there (ap (λ (no : CoreNo). Err no) refused) in
    let W : RpAsk → Type 0 = λ a. most_of role.setup.configuration.lasting < w + ask_weight a in
    (full.0, subst W asked full.1))
