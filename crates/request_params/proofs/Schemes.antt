-- Each header has one scheme, and a word that is spelled in any case has no space.
use Rattle.std.proofs.Common.{◌≡◌, ◌⊎◌, inl, inr, ◌==◌, ℕ, List, [], ◌∷◌, ◌++◌, Bool, true, false, map, codes, Option, Some, None, refl, sym, ap, ◌∙◌, subst, arith}
use Rattle.std.specs.Str.{str_to_ascii_lowercase}
use Rattle.std.specs.Char.{to_ascii_lowercase}
use Rattle.std.proofs.lemmas.Bool.Decides.{nat_tests}
use Rattle.std.proofs.lemmas.Slice.Eq.{bytes_eq-Decides}
use Rattle.request_params.specs.Scheme.{split_once, first_part, scheme_of, is_bearer, has_byte, IsScheme}
use Rattle.request_params.proofs.Splits.{either_false, split_join, split_absent, split_joins, absent_split}

-- ---- one scheme

pub scheme_parts : (s h : List ℕ) → has_byte 32 s ≡ false → (h ≡ s) ⊎ ((rest : List ℕ) × (h ≡ s ++ 32 ∷ rest)) → scheme_of h ≡ s
scheme_parts s h free (inl is) = ap scheme_of is ∙ ap (first_part s) (split_absent 32 s free)
scheme_parts s h free (inr p) = ap scheme_of p.1 ∙ ap (first_part (s ++ 32 ∷ p.0)) (split_join 32 s p.0 free)

pub scheme_is : (s h : List ℕ) → IsScheme s h → scheme_of h ≡ s
scheme_is s h i = scheme_parts s h i.no_space i.parts

pub one_scheme : (s t h : List ℕ) → IsScheme s h → IsScheme t h → s ≡ t
one_scheme s t h i j = sym (scheme_is s h i) ∙ scheme_is t h j

scheme_at : (h : List ℕ) (o : Option (List ℕ × List ℕ)) → split_once 32 h ≡ o → IsScheme (first_part h o) h
scheme_at h None is = record { no_space = absent_split 32 h is; parts = inl refl }
scheme_at h (Some q) is = let joins = split_joins 32 h q is in record { no_space = joins.1; parts = inr (q.1, joins.0) }

pub has_scheme : (h : List ℕ) → IsScheme (scheme_of h) h
has_scheme h = scheme_at h (split_once 32 h) refl

pub some_scheme : (h : List ℕ) → (s : List ℕ) × IsScheme s h
some_scheme h = (scheme_of h, has_scheme h)

-- ---- a text has no space where it has none in lower case

is_space : (x : ℕ) → (x == 32) ≡ true → x ≡ 32
is_space x h = grind (arith, nat_tests)

no_space_at : (x : ℕ) (t : Bool) → (x == 32) ≡ t → (to_ascii_lowercase x == 32) ≡ false → t ≡ false
no_space_at x true is h = absurd (cc (subst (λ y. (to_ascii_lowercase y == 32) ≡ false) (is_space x is) h))
no_space_at x false is h = refl

pub no_space_lower : (s : List ℕ) → has_byte 32 (map to_ascii_lowercase s) ≡ false → has_byte 32 s ≡ false
no_space_lower [] h = refl
no_space_lower (x ∷ s) h =
    let parts = either_false (to_ascii_lowercase x == 32) (has_byte 32 (map to_ascii_lowercase s)) h in
    rw (no_space_at x (x == 32) refl parts.0) (no_space_lower s parts.1)

-- ---- `bearer`

pub bearer_no_space : (s : List ℕ) → str_to_ascii_lowercase s ≡ codes "bearer" → has_byte 32 s ≡ false
bearer_no_space s h = no_space_lower s (ap (has_byte 32) h)

pub bearer_is : (s : List ℕ) → is_bearer s ≡ true → str_to_ascii_lowercase s ≡ codes "bearer"
bearer_is s h = (bytes_eq-Decides (str_to_ascii_lowercase s) (codes "bearer")).0 h

pub is_bearer_of : (s : List ℕ) → str_to_ascii_lowercase s ≡ codes "bearer" → is_bearer s ≡ true
is_bearer_of s h = (bytes_eq-Decides (str_to_ascii_lowercase s) (codes "bearer")).1 h
