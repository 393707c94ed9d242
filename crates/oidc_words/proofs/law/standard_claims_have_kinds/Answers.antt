use Rattle.oidc_words.proofs.ClaimKinds.{has_kind, sub_has_none}
use Rattle.oidc_words.proofs.law.standard_claims_have_kinds.Goals as goal

pub returns-clause-kind : goal.returns-clause-kind
returns-clause-kind c = has_kind

pub returns-clause-sub : goal.returns-clause-sub
returns-clause-sub c = sub_has_none
