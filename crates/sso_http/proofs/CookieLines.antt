-- One more cookie is written.
use Rattle.std.proofs.Common.{◌≡◌, ℕ, ◌+◌, List, ◌++◌, drop, slice_get, Some, sym, ap, ◌∙◌}
use Rattle.std.specs.Prelude.{codes}
use Rattle.std.proofs.lemmas.List.{append_assoc}
use Rattle.sso_base.proofs.ListSteps.{drop_at}
use Rattle.sso_http.specs.Replies.{cookie_lines}
use Rattle.sso_http.specs.Writing.{field}

pub cookies_more : (xs : List (List ℕ)) (i : ℕ) (x old new whole : List ℕ) → slice_get xs i ≡ Some x → new ≡ old ++ field (codes "Set-Cookie") x
    → old ++ cookie_lines (drop i xs) ≡ whole → new ++ cookie_lines (drop (i + 1) xs) ≡ whole
cookies_more xs i x old new whole at made told =
    let rest : List ℕ = cookie_lines (drop (i + 1) xs) in
    ap (λ (m : List ℕ). m ++ rest) made
    ∙ append_assoc old (field (codes "Set-Cookie") x) rest
    ∙ sym (ap (λ (l : List (List ℕ)). old ++ cookie_lines l) (drop_at xs i x at))
    ∙ told
