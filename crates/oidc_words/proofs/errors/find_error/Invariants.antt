use Rattle.std.proofs.Common.{◌≡◌, drop}
use Rattle.std.specs.List.{find}
use Rattle.std.specs.Str.{bytes_eq}
use Rattle.oidc_words.specs.Errors.{error_text}
use Rattle.oidc_words.proofs.errors.find_error.Given as goal

-- what the codes to come give is what all give
abbrev pub invariant-loop-code : goal.invariant-loop-code
invariant-loop-code l = find (λ code. bytes_eq (error_text code) l.text) (drop l.code-index l.codes) ≡ find (λ code. bytes_eq (error_text code) l.text) l.codes
