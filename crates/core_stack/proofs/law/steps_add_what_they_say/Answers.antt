use Rattle.std.proofs.Common.{[], ◌∷◌, ◌++◌}
use Rattle.core_stack.proofs.Added.{one_at_most, said_is_added}
use Rattle.core_stack.proofs.law.steps_add_what_they_say.Goals as goal

pub returns-clause-one : goal.returns-clause-one
returns-clause-one g c = λ s h p legal.
    one_at_most p.entry.at p.entry.fresh (g.P.Provides.plain_ask p.entry.ask) (g.P.Provides.given_reply p.reply) (g.P.Provides.provided h) (g.P.Provides.provided (h ++ p ∷ []))
    (g.met.P.Provides.adds_what_it_gives s h p legal)

pub returns-clause-said : goal.returns-clause-said
returns-clause-said g c = λ s h p a r legal asked told own.
    said_is_added p.entry.at p.entry.fresh (g.P.Provides.plain_ask p.entry.ask) (g.P.Provides.given_reply p.reply) (g.P.Provides.provided h) (g.P.Provides.provided (h ++ p ∷ [])) a r
    (g.met.P.Provides.adds_what_it_gives s h p legal) asked (g.met.P.Provides.only_refusals_are_own s h p r legal told own)
