-- The code that the provider's tables hold is the one of its history.
use Rattle.std.proofs.Common.{◌≡◌, ◌≤◌, ℕ, Some, option_and_then}
use Rattle.sso_base.specs.Words.{Word}
use Rattle.sso_base.specs.Rows.{row_of, if_lives}
use Rattle.sso_base.specs.Legal.{last_moment}
use Rattle.sso_base.proofs.RowLaws.{rows_distinct}
use Rattle.oidc_words.specs.Lives.{code_life}
use Rattle.code_grant.specs.Rows.{code_name, code_begun}
use Rattle.code_grant.specs.Tables.{Tables, AreCodes}
use Rattle.held_rows.proofs.Found.{found_in_both}
use Rattle.op_answer.specs.Past.{OpPast}
use Rattle.op_answer.specs.Codes.{codes_issued, code_made, code_kept, held_code}
use Rattle.op_answer.proofs.KeptNames.{code_names}
use Rattle.op_tables.specs.Agreeing.{Agrees}

pub code_in_both : (t : Tables) (past : OpPast) (at : ℕ) (w : Word) → last_moment past ≤ at → Agrees t past (last_moment past) → AreCodes t.codes
    → option_and_then (if_lives code_life code_begun at) (row_of code_name w t.codes) ≡ held_code past at (Some w)
code_in_both t past at w order agrees held =
    found_in_both code_name code_life code_begun (last_moment past) at order w t.codes (codes_issued past) held.distinct (rows_distinct code_name code_made code_kept code_names past) agrees.codes
