use Rattle.std.proofs.Common.{◌≡◌, ◌<◌, ◌≤◌, ◌+◌, Err, sym, ap, ◌∙◌, subst}
use Rattle.std.proofs.lemmas.Result.{err_from_is_err_and}
use Rattle.sso_base.specs.Journal.{most_of, history_weight}
use Rattle.sso_base.specs.declared.step.CoreNo.{CoreNo}
use Rattle.sso_base.specs.declared.step.CoreNo.TheVariants.{JournalFull}
use Rattle.sso_base.proofs.Refusals.{returned_error}
use Rattle.client_registry.specs.Configuration.{Configuration}
use Rattle.op_exchange.specs.declared.ask.OpAsk.{OpAsk}
use Rattle.op_exchange.specs.Weight.{ask_weight}
use Rattle.op_request.specs.Prepared.{prepared}
use Rattle.running_world.specs.Transcribed.{Transcribed}
use Rattle.running_world.proofs.Preparing.{asked_is_prepared}
use Rattle.running_world.proofs.asking.ask_provider.Goals as goal

pub foreknown-fore-requires : goal.foreknown-fore-requires
foreknown-fore-requires c =
    let r : Configuration = c.prepare.new.self.registry in
    let same : c.args.provider.now.registry ≡ r = c.requires.registry ∙ sym (ap (λ (t : Transcribed). t.registry) c.prepare.ensures.same) in
    asked_is_prepared r c.args.provider.now.registry c.in_ok-asked.asked c.args.request c.registry.ensures.read same
    (c.in_ok-asked.ensures ∙ ap (λ (d : Configuration). prepared d c.args.request) c.registry.ensures.registry)

-- the limit of the provider's history is that of the transcript's registry
pub returns-clause-room : goal.returns-clause-room
returns-clause-room c =
    let asked : c.in_ok-asked.asked ≡ prepared c.args.transcript.now.registry c.args.request =
    c.in_ok-asked.ensures ∙ ap (λ (d : Configuration). prepared d c.args.request) (c.registry.ensures.registry ∙ ap (λ (t : Transcribed). t.registry) c.prepare.ensures.same) in
    let A : OpAsk → Type 0 = λ a. history_weight ask_weight c.args.provider.now.history + ask_weight a ≤ most_of c.args.provider.now.registry.lasting in
    let M : Configuration → Type 0 = λ d. history_weight ask_weight c.args.provider.now.history + ask_weight (prepared c.args.transcript.now.registry c.args.request) ≤ most_of d.lasting in
    subst M c.requires.registry (subst A asked c.in_ok-told.ensures.room)

pub returns-in_err-told-clause-full : goal.returns-in_err-told-clause-full
returns-in_err-told-clause-full c =
    λ w is.
    (let asked : c.in_ok-asked.asked ≡ prepared c.args.transcript.now.registry c.args.request =
    c.in_ok-asked.ensures ∙ ap (λ (d : Configuration). prepared d c.args.request) (c.registry.ensures.registry ∙ ap (λ (t : Transcribed). t.registry) c.prepare.ensures.same) in
    let returned = err_from_is_err_and c.from_residual-in_err-told.result c.from_residual-in_err-told.ensures.1 in
    let refused : c.in_err-told.field-0.0 ≡ JournalFull w = returned_error c.from_residual-in_err-told.result returned.0 c.in_err-told.field-0.0 (JournalFull w) returned.1 returned.2 is in
    let full = c.in_err-told.ensures.full w (ap (λ (no : CoreNo). Err no) refused) in
    let A : OpAsk → Type 0 = λ a. most_of c.args.provider.now.registry.lasting < w + ask_weight a in
    let M : Configuration → Type 0 = λ d. most_of d.lasting < w + ask_weight (prepared c.args.transcript.now.registry c.args.request) in
    (full.0, subst M c.requires.registry (subst A asked full.1)))
