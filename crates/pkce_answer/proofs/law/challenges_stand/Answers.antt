use Rattle.std.proofs.Common.{None}
use Rattle.sso_base.proofs.Literal.{stands-row_of, row_of-stands}
use Rattle.core_stack.specs.Rows.{turn_mark_name, code_mark_name}
use Rattle.core_stack.specs.Marks.{turn_made, turn_kept, code_made, code_kept}
use Rattle.core_stack.proofs.MarksHeld.{turn_mark_names, code_mark_names}
use Rattle.pkce_answer.specs.Challenges.{asked_mark}
use Rattle.pkce_answer.specs.Around.{outer_plain, outer_given}
use Rattle.pkce_answer.proofs.law.challenges_stand.Goals as goal

pub returns-clause-turns : goal.returns-clause-turns
returns-clause-turns g c = λ past w row.
    let plain = outer_plain g.P.Provides.plain_ask in
    let given = outer_given g.P.Provides.given_reply in (
      stands-row_of turn_mark_name (turn_made plain given asked_mark) (turn_kept plain given) (turn_mark_names plain given) w past row,
      row_of-stands turn_mark_name (turn_made plain given asked_mark) (turn_kept plain given) (turn_mark_names plain given) w past row,
    )

pub returns-clause-codes : goal.returns-clause-codes
returns-clause-codes g c = λ past w row.
    let plain = outer_plain g.P.Provides.plain_ask in
    let given = outer_given g.P.Provides.given_reply in (
      stands-row_of code_mark_name (code_made plain given asked_mark None) code_kept code_mark_names w past row,
      row_of-stands code_mark_name (code_made plain given asked_mark None) code_kept code_mark_names w past row,
    )
