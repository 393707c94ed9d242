-- The records of the rows up to one more.
use Rattle.std.proofs.Common.{◌≡◌, ◌<◌, ℕ, ◌+◌, List, [], ◌∷◌, ◌++◌, length, map, take, slice_index_or, sym, ap, ◌∙◌}
use Rattle.std.proofs.lemmas.List.{take_more, map-append}

pub one_more_row : {R D K : Type 0} (f : D → K) (g : R → D) (rows : List R) (i : ℕ) (row : R) (ks more : List K) (k : K)
    → i < length rows → row ≡ slice_index_or rows i row → ks ≡ map f (map g (take i rows)) → more ≡ ks ++ k ∷ [] → k ≡ f (g row)
    → more ≡ map f (map g (take (i + 1) rows))
one_more_row {R} {D} {K} f g rows i row ks more k here is was pushed made =
    let taken : take (i + 1) rows ≡ take i rows ++ row ∷ [] = take_more rows i row here ∙ ap (λ (x : R). take i rows ++ x ∷ []) (sym is) in
    let rest : List D = map g (take i rows) in
    pushed
    ∙ ap (λ (l : List K). l ++ k ∷ []) was
    ∙ ap (λ (x : K). map f rest ++ x ∷ []) made
    ∙ sym (
    ap (λ (l : List R). map f (map g l)) taken
    ∙ ap (λ (l : List D). map f l) (map-append g (take i rows) (row ∷ []))
    ∙ map-append f rest (g row ∷ [])
    )
