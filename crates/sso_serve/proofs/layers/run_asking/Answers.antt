use Rattle.sso_serve.proofs.OpSends.{asking_sends, asking_shares}
use Rattle.sso_serve.proofs.layers.run_asking.Goals as goal

pub run_provider-requires-send-P : goal.run_provider-requires-send-P
run_provider-requires-send-P g c κs within = search asking_sends depth 60 fits 20000

pub run_provider-requires-sync-P : goal.run_provider-requires-sync-P
run_provider-requires-sync-P g c κs within = search asking_shares depth 60 fits 20000

pub run_provider-requires-send-P-Ask : goal.run_provider-requires-send-P-Ask
run_provider-requires-send-P-Ask g c κs within = search asking_sends depth 60 fits 20000

pub run_provider-requires-send-P-Reply : goal.run_provider-requires-send-P-Reply
run_provider-requires-send-P-Reply g c κs within = search asking_sends depth 60 fits 20000

pub returns-clause-ran : goal.returns-clause-ran
returns-clause-ran g c = c.run_provider.ensures.ran
