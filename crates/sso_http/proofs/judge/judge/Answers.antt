use Rattle.sso_http.proofs.JudgedParts.{refused}
use Rattle.sso_http.proofs.judge.judge.Goals as goal

pub returns-clause-err : goal.returns-clause-err
returns-clause-err c = refused _ _ _ _ _ _ c.in-Some.ensures.parts _ c.judge_parts.ensures
