use Rattle.sso_base.specs.Journal.{most_of, history_weight}
use Rattle.sso_base.proofs.Histories.{few_pairs, few_stored_pairs}
use Rattle.sso_base.proofs.Limits.{most_is_short, stored_is_light}
use Rattle.rp_exchange.specs.Weight.{ask_weight}
use Rattle.rp_exchange.proofs.LeastWeight.{least_weight}
use Rattle.rp_answer.proofs.law.legal_histories_are_short.Goals as goal

pub returns-clause-stored : goal.returns-clause-stored
returns-clause-stored c = λ s history stored legal.
    few_stored_pairs ask_weight least_weight history (stored_is_light s.configuration.lasting (history_weight ask_weight history) stored legal.light)

pub returns-clause-all : goal.returns-clause-all
returns-clause-all c = λ s history legal. few_pairs ask_weight least_weight (most_of s.configuration.lasting) (most_is_short s.configuration.lasting) history legal.light
