use Rattle.std.proofs.Common.{ap, sym, ◌∙◌}
use Rattle.std.specs.Option.{option_copied}
use Rattle.core_stack.proofs.Same.{some_same}
use Rattle.refresh_answer.specs.declared.rows.FamilyRow.{FamilyRow}
use Rattle.refresh_book.specs.Keeps.{is_own_family}
use Rattle.refresh_book.proofs.refresh_core.RefreshCore.family_asked.Goals as goal

-- a family is of the client and the user of its code
pub returns-in_ok-family_for-in-Some-clause-own : goal.returns-in_ok-family_for-in-Some-clause-own
returns-in_ok-family_for-in-Some-clause-own g c = λ f is.
    let K = λ (x : FamilyRow). is_own_family c.args.self.now.registry x in
    sym (ap K (some_same c.in_ok-family_for-in-Some.field-0 f is)) ∙ ap K c.in_ok-family_for-in-Some.ensures ∙ c.code_held.ensures.own c.in-Some.code.now (ap option_copied c.in-Some.is)
