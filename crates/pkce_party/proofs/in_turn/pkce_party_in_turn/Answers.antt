use Rattle.std.proofs.Common.{ap, subst, ◌∙◌}
use Rattle.sso_base.specs.Asked.{FillsHistory}
use Rattle.sso_base.specs.Journal.{most_of}
use Rattle.rp_exchange.specs.Weight.{ask_weight}
use Rattle.rp_answer.specs.Setup.{PartySetup}
use Rattle.rp_core.specs.Relying.{Relying}
use Rattle.pkce_party.proofs.in_turn.pkce_party_in_turn.Goals as goal

pub returns-in-Ok-clause-full : goal.returns-in-Ok-clause-full
returns-in-Ok-clause-full c = λ w is.
    subst (λ (s : PartySetup). FillsHistory ask_weight (most_of s.configuration.lasting) c.args.asks.items w) (ap (λ (p : Relying). p.setup) (c.new-party.ensures ∙ c.in-Ok.ensures)) (c.replies_in_turn.ensures.full w is)
