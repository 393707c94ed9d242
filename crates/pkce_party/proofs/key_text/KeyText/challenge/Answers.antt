use Rattle.std.proofs.Common.{List, ℕ, sym, subst}
use Rattle.std.specs.Str.{IsUtf8}
use Rattle.pkce_party.proofs.KeyTexts.{IsUtf8-challenge_of}
use Rattle.pkce_party.proofs.key_text.KeyText.challenge.Goals as goal

pub invariant_of-result : goal.invariant_of-result
invariant_of-result c = subst (λ (t : List ℕ). IsUtf8 t) (sym c.challenge_of-bytes.ensures) (IsUtf8-challenge_of _)
