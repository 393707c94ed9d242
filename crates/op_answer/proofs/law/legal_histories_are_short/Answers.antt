use Rattle.sso_base.specs.Journal.{most_of, history_weight}
use Rattle.sso_base.proofs.Histories.{few_pairs, few_stored_pairs}
use Rattle.sso_base.proofs.Limits.{most_is_short, stored_is_light}
use Rattle.op_exchange.specs.Weight.{ask_weight}
use Rattle.op_exchange.proofs.LeastWeight.{least_weight}
use Rattle.op_answer.proofs.law.legal_histories_are_short.Goals as goal

pub returns-clause-stored : goal.returns-clause-stored
returns-clause-stored c = λ d history stored legal.
    few_stored_pairs ask_weight least_weight history (stored_is_light d.lasting (history_weight ask_weight history) stored legal.light)

pub returns-clause-all : goal.returns-clause-all
returns-clause-all c = λ d history legal. few_pairs ask_weight least_weight (most_of d.lasting) (most_is_short d.lasting) history legal.light
