use Rattle.std.proofs.Common.{[], ◌∷◌, ◌++◌}
use Rattle.core_stack.proofs.Added.{shown_is_given}
use Rattle.core_stack.proofs.law.steps_add_only_what_they_say.Goals as goal

pub returns : goal.returns
returns g c = λ s h p q legal same shown.
    let found =
    shown_is_given p.entry.at p.entry.fresh (g.P.Provides.plain_ask p.entry.ask) (g.P.Provides.given_reply p.reply) (g.P.Provides.provided h) (g.P.Provides.provided (h ++ p ∷ [])) q
    (g.met.P.Provides.adds_what_it_gives s h p legal) same shown in
    (found.0, found.1, found.2, g.met.P.Provides.given_is_told p.reply found.1 found.3, found.4)
