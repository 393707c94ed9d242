use Rattle.std.proofs.Common.{ap}
use Rattle.sso_base.specs.Rows.{live_rows}
use Rattle.oidc_words.specs.Lives.{code_life}
use Rattle.core_stack.specs.Rows.{code_mark_name, code_mark_begun}
use Rattle.core_stack.proofs.MarksHeld.{may_through}
use Rattle.core_stack.proofs.holding.keep_codes.Goals as goal

pub put_code-requires-clause-may : goal.put_code-requires-clause-may
put_code-requires-clause-may g c =
    may_through code_mark_name code_mark_begun c.args.row (live_rows code_life code_mark_begun c.args.at c.args.codes.now.rows) c.purge.new.self.rows (ap (λ x. x.rows) c.purge.ensures.rows) c.requires.may
