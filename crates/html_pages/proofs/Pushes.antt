-- What is written piece by piece, onto what was written before.
use Rattle.std.proofs.Common.{◌≡◌, ◌++◌, ap, ◌∙◌, append_assoc}
use Rattle.sso_base.specs.Words.{Text}

-- one more piece
pub pushed : (start old new pieces piece : Text) → old ≡ start ++ pieces → new ≡ old ++ piece → new ≡ start ++ (pieces ++ piece)
pushed start old new pieces piece before e = e ∙ ap (λ t. t ++ piece) before ∙ append_assoc start pieces piece
