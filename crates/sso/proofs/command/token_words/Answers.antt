use Rattle.std.proofs.Common.{inr, ◌∙◌, ap, List, ℕ}
use Rattle.std.proofs.lemmas.Result.{IfOk-weaker}
use Rattle.sso.specs.Answer.{token_answer}
use Rattle.sso.proofs.Fetched.{token_fetched}
use Rattle.sso.proofs.command.token_words.Goals as goal

pub returns-in-Ok-clause-may : goal.returns-in-Ok-clause-may
returns-in-Ok-clause-may g c =
    IfOk-weaker c.answer_token.result _ _
    (λ outcome is. inr (token_fetched _ _ _ c.in-Ok.secret c.in-Ok.token outcome c.in-Ok.ensures.first c.in-Ok.ensures.second
    (is ∙ ap (λ (v : List ℕ). token_answer v c.as_bytes-in-Ok.result.now) c.as_bytes.ensures ∙ ap (λ (v : List ℕ). token_answer c.in-Ok.secret v) c.as_bytes-in-Ok.ensures)))
    c.answer_token.ensures
