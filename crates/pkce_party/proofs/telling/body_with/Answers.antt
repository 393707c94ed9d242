use Rattle.std.proofs.Common.{List, ℕ, ◌++◌, codes, ◌∙◌, ap}
use Rattle.std.proofs.lemmas.Result.{IfOk-weaker}
use Rattle.pkce_party.proofs.telling.body_with.Goals as goal

pub returns : goal.returns
returns c =
    let B : List ℕ → List ℕ = λ l. l ++ c.in_ok-parameter.parameter in
    let P : List ℕ → List ℕ = λ l. c.args.body.now ++ l in
    let V : List ℕ → List ℕ = λ l. codes "&code_verifier=" ++ l in
    IfOk-weaker c.form_with.result _ _ (λ b is. is ∙ ap B c.as_bytes.ensures ∙ ap P (c.in_ok-parameter.ensures ∙ ap V c.as_str.ensures)) c.form_with.ensures
