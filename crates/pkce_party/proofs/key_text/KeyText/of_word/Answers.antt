use Rattle.std.proofs.Common.{List, ℕ, sym, subst}
use Rattle.std.specs.Str.{IsUtf8}
use Rattle.sso_base.proofs.WordUtf8.{IsUtf8-word_text}
use Rattle.pkce_party.proofs.key_text.KeyText.of_word.Goals as goal

pub invariant_of-result : goal.invariant_of-result
invariant_of-result c = subst (λ (t : List ℕ). IsUtf8 t) (sym c.text-bytes.ensures) (IsUtf8-word_text c.args.word.now)
