use Rattle.std.proofs.Common.{Bool, sym, ◌∙◌, ap}
use Rattle.sso_base.specs.Journal.{most_of}
use Rattle.rp_answer.specs.Setup.{PartySetup}
use Rattle.rp_core.proofs.Beginning.{begins}
use Rattle.rp_core.proofs.state.RpCore.new.Goals as goal

pub invariant_of-result : goal.invariant_of-result
invariant_of-result c =
    begins c.new-2.result c.new-3.result.pairs c.in_ok-logins.logins c.new-3.result.most c.new-3.ensures.pairs c.in_ok-logins.ensures
    (c.new-3.ensures.most ∙ ap (λ (b : Bool). most_of b) c.lasting-lasts.ensures ∙ sym (ap (λ (s : PartySetup). most_of s.configuration.lasting) c.new-2.ensures))
