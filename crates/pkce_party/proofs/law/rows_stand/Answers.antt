use Rattle.sso_base.proofs.Literal.{stands-row_of, row_of-stands}
use Rattle.pkce_party.specs.Verifiers.{verifier_name, verifier_made, verifier_kept}
use Rattle.pkce_party.proofs.KeptRows.{verifier_names}
use Rattle.pkce_party.proofs.law.rows_stand.Goals as goal

pub returns : goal.returns
returns c = λ past state row. (
  stands-row_of verifier_name verifier_made verifier_kept verifier_names state past row,
  row_of-stands verifier_name verifier_made verifier_kept verifier_names state past row,
)
