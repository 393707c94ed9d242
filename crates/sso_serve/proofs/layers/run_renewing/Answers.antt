use Rattle.sso_serve.proofs.OpSends.{renewing_sends, renewing_shares}
use Rattle.sso_serve.proofs.layers.run_renewing.Goals as goal

pub run_asking-requires-send-P : goal.run_asking-requires-send-P
run_asking-requires-send-P g c κs within = search renewing_sends depth 60 fits 20000

pub run_asking-requires-sync-P : goal.run_asking-requires-sync-P
run_asking-requires-sync-P g c κs within = search renewing_shares depth 60 fits 20000

pub run_asking-requires-send-P-Ask : goal.run_asking-requires-send-P-Ask
run_asking-requires-send-P-Ask g c κs within = search renewing_sends depth 60 fits 20000

pub run_asking-requires-sync-P-Ask : goal.run_asking-requires-sync-P-Ask
run_asking-requires-sync-P-Ask g c κs within = search renewing_shares depth 60 fits 20000

pub run_asking-requires-send-P-Reply : goal.run_asking-requires-send-P-Reply
run_asking-requires-send-P-Reply g c κs within = search renewing_sends depth 60 fits 20000

pub returns-clause-ran : goal.returns-clause-ran
returns-clause-ran g c = c.run_asking.ensures.ran
