-- Redirection URIs that stand twice, one after another.
use Rattle.std.proofs.Common.{◌≡◌, ℕ, ◌+◌, List, ◌++◌, drop, Some, slice_get, sym, ap, ◌∙◌, append_assoc}
use Rattle.configuration_rows.specs.declared.no.RegNo.{RegNo}
use Rattle.configuration_rows.specs.declared.no.RegNo.TheVariants as no
use Rattle.client_registry.specs.declared.records.Client.{Client}
use Rattle.configuration_rows.specs.Refusals.{note_if, each_from}
use Rattle.client_registry.specs.Rules.{redirect_place, is_again, redirects_twice}
use Rattle.sso_base.proofs.ListSteps.{drop_at}

pub twice_next : (clients : List Client) (place : ℕ) (uris : List (List ℕ)) (n : ℕ) (uri : List ℕ) (xs ys zs : List RegNo) → slice_get uris n ≡ Some uri
    → ys ≡ xs ++ note_if (is_again place (redirect_place uri clients)) (no.Twice uri)
    → xs ++ redirects_twice clients place (drop n uris) ≡ zs → ys ++ redirects_twice clients place (drop (n + 1) uris) ≡ zs
twice_next clients place uris n uri xs ys zs e noted is =
    let rest : List RegNo = redirects_twice clients place (drop (n + 1) uris) in
    let here : List RegNo = note_if (is_again place (redirect_place uri clients)) (no.Twice uri) in
    ap (λ es. es ++ rest) noted ∙ append_assoc xs here rest ∙ ap (λ ds. xs ++ redirects_twice clients place ds) (sym (drop_at uris n uri e)) ∙ is

-- what the row at a place is guilty of, and the rows behind it
pub each_next : {A : Type 0} (f : ℕ → A → List RegNo) (rows : List A) (n : ℕ) (row : A) (xs ys zs : List RegNo) → slice_get rows n ≡ Some row
    → ys ≡ xs ++ f n row → xs ++ each_from f n (drop n rows) ≡ zs → ys ++ each_from f (n + 1) (drop (n + 1) rows) ≡ zs
each_next f rows n row xs ys zs e noted is =
    let rest : List RegNo = each_from f (n + 1) (drop (n + 1) rows) in
    ap (λ es. es ++ rest) noted ∙ append_assoc xs (f n row) rest ∙ ap (λ ds. xs ++ each_from f n ds) (sym (drop_at rows n row e)) ∙ is
