use Rattle.sso_serve.specs.Cores.{end_setup}
use Rattle.sso_serve.proofs.Serving.{setups_same, op_plus_ran}
use Rattle.sso_serve.proofs.OpSends.{keyed_sends, keyed_shares}
use Rattle.sso_serve.proofs.ran.run_op_plus.Goals as goal

pub run_renewing-requires-send-P : goal.run_renewing-requires-send-P
run_renewing-requires-send-P g c κs within = search keyed_sends depth 60 fits 20000

pub run_renewing-requires-sync-P : goal.run_renewing-requires-sync-P
run_renewing-requires-sync-P g c κs within = search keyed_shares depth 60 fits 20000

pub run_renewing-requires-send-P-Ask : goal.run_renewing-requires-send-P-Ask
run_renewing-requires-send-P-Ask g c κs within = search keyed_sends depth 60 fits 20000

pub run_renewing-requires-sync-P-Ask : goal.run_renewing-requires-sync-P-Ask
run_renewing-requires-sync-P-Ask g c κs within = search keyed_shares depth 60 fits 20000

pub run_renewing-requires-send-P-Reply : goal.run_renewing-requires-send-P-Reply
run_renewing-requires-send-P-Reply g c κs within = search keyed_sends depth 60 fits 20000

pub run_renewing-requires-clause-registry : goal.run_renewing-requires-clause-registry
run_renewing-requires-clause-registry g c κs within = c.in_ok-core.ensures.registry

pub returns-clause-ran : goal.returns-clause-ran
returns-clause-ran g c =
    op_plus_ran _ _ _ (end_setup c.args.registry.now c.args.returns) _ _ c.run_renewing.result c.in_ok-core.ensures.setup
    (setups_same _ _ c.args.registry.now c.in_ok-core.ensures.registry c.in_ok-core.ensures.own) c.run_renewing.ensures.ran
