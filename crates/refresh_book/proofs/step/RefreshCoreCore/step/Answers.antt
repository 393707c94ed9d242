use Rattle.std.proofs.Common.{sym, ◌∙◌, reverse}
use Rattle.refresh_book.proofs.Committing.{passes_none}
use Rattle.refresh_book.proofs.step.RefreshCoreCore.step.Goals as goal

-- what is no refresh request and no UserInfo request with an access token of a family is passed on
pub pass-requires-clause-passes : goal.pass-requires-clause-passes
pass-requires-clause-passes g c =
    passes_none g.P.Provides.plain_ask g.P.Provides.given_reply g.P.Provides.provided c.args.self.now.registry (reverse c.args.self.now.history) c.entry-entry.result.at c.entry-entry.result.fresh c.entry-entry.result.ask
    (sym c.is_refresh_ask.ensures ∙ c.if-is_refresh_ask.false) (sym c.in_ok-reply.ensures ∙ c.in-None.is)
