use Rattle.std.proofs.Common.{ap, ◌∙◌}
use Rattle.client_registry.specs.Configuration.{Configuration}
use Rattle.rp_accept.specs.Serving.{setup_of}
use Rattle.rp_core.specs.Relying.{Relying}
use Rattle.pkce_party.specs.Keeping.{pairs_of}
use Rattle.sso_serve.proofs.Sends.{sends, shares}
use Rattle.sso_serve.proofs.Serving.{rp_plus_ran}
use Rattle.sso_serve.proofs.ran.run_rp_plus.Goals as goal

pub run_party-requires-send-P : goal.run_party-requires-send-P
run_party-requires-send-P g c κs within = search sends depth 60 fits 20000

pub run_party-requires-sync-P : goal.run_party-requires-sync-P
run_party-requires-sync-P g c κs within = search shares depth 60 fits 20000

pub run_party-requires-send-P-Ask : goal.run_party-requires-send-P-Ask
run_party-requires-send-P-Ask g c κs within = search sends depth 60 fits 20000

pub run_party-requires-clause-empty : goal.run_party-requires-clause-empty
run_party-requires-clause-empty g c κs within = ap (λ (r : Relying). pairs_of r) c.in_ok-core.ensures

pub run_party-requires-clause-registry : goal.run_party-requires-clause-registry
run_party-requires-clause-registry g c κs within = ap (λ (r : Relying). r.setup.configuration) c.in_ok-core.ensures ∙ c.in_ok-copy.ensures

pub run_party-requires-clause-number : goal.run_party-requires-clause-number
run_party-requires-clause-number g c κs within = ap (λ (r : Relying). r.setup.number) c.in_ok-core.ensures

pub returns-clause-ran : goal.returns-clause-ran
returns-clause-ran g c =
    rp_plus_ran _ _ _ (setup_of c.args.registry.now c.args.party c.args.provider) _ c.run_party.result
    (ap (λ (r : Relying). r.setup) c.in_ok-core.ensures ∙ ap (λ (v : Configuration). setup_of v c.args.party c.args.provider) c.in_ok-copy.ensures)
    c.run_party.ensures.ran
