-- What stands in the query of the redirection URI itself changes nothing.
use Rattle.std.proofs.Common.{◌≡◌, ◌==◌, ℕ, List, [], ◌∷◌, ◌++◌, Bool, true, false, ◌||◌, cond, filter, map, codes, refl, ◌∙◌, ap, append_assoc}
use Rattle.std.specs.List.{list_any}
use Rattle.std.proofs.lemmas.List.{map-append}
use Rattle.std.proofs.lemmas.List.Elements.{filter-append}
use Rattle.form_urlencoded.specs.Form.{onto_first, split, split_pair, is_nonempty, raw_pairs}
use Rattle.registered_url.specs.Query.{form_names}
use Rattle.sso_base.specs.Texts.{has_text}
use Rattle.configuration_rows.specs.Rows.{answer_names}
use Rattle.request_params.specs.Form.{Pair, pair_of, form_pairs}
use Rattle.auth_answer.specs.Reading.{names_part, heard_pairs, pairs_read, answer_read}

-- ---- pieces between `&`

filled_at : (b : ℕ) (c : Bool) (pieces : List (List ℕ)) → ¬ (cond c ([] ∷ pieces) (onto_first b pieces) ≡ [])
filled_at b true pieces h = cc
filled_at b false [] h = cc
filled_at b false (piece ∷ pieces) h = cc

-- there is always a first piece
split_filled : (xs : List ℕ) → ¬ (split 38 xs ≡ [])
unfolding split
split_filled [] h = cc
split_filled (b ∷ xs) h = filled_at b (b == 38) (split 38 xs) h

onto_front : (b : ℕ) (pieces more : List (List ℕ)) → ¬ (pieces ≡ []) → onto_first b (pieces ++ more) ≡ onto_first b pieces ++ more
onto_front b [] more filled = absurd (filled refl)
onto_front b (piece ∷ pieces) more filled = refl

split_step : (b : ℕ) (c : Bool) (all pieces more : List (List ℕ)) → ¬ (pieces ≡ []) → all ≡ pieces ++ more
    → cond c ([] ∷ all) (onto_first b all) ≡ cond c ([] ∷ pieces) (onto_first b pieces) ++ more
split_step b true all pieces more filled is = ap (λ (x : List (List ℕ)). [] ∷ x) is
split_step b false all pieces more filled is = ap (onto_first b) is ∙ onto_front b pieces more filled

split_two : (xs ys : List ℕ) → split 38 (xs ++ 38 ∷ ys) ≡ split 38 xs ++ split 38 ys
unfolding split
split_two [] ys = refl
split_two (b ∷ xs) ys = split_step b (b == 38) (split 38 (xs ++ 38 ∷ ys)) (split 38 xs) (split 38 ys) (split_filled xs) (split_two xs ys)

-- ---- pairs

raw_two : (xs ys : List ℕ) → raw_pairs (xs ++ 38 ∷ ys) ≡ raw_pairs xs ++ raw_pairs ys
unfolding raw_pairs
raw_two xs ys =
    ap (λ pieces. map split_pair (filter is_nonempty pieces)) (split_two xs ys)
    ∙ ap (map split_pair) (filter-append is_nonempty (split 38 xs) (split 38 ys))
    ∙ map-append split_pair (filter is_nonempty (split 38 xs)) (filter is_nonempty (split 38 ys))

-- the pairs of two forms with `&` between them
pub form_pairs-two : (xs ys : List ℕ) → form_pairs (xs ++ 38 ∷ ys) ≡ form_pairs xs ++ form_pairs ys
unfolding form_pairs
form_pairs-two xs ys = ap (map pair_of) (raw_two xs ys) ∙ map-append pair_of (raw_pairs xs) (raw_pairs ys)

pub heard_pairs-two : (xs ys : List ℕ) → heard_pairs (xs ++ 38 ∷ ys) ≡ heard_pairs xs ++ heard_pairs ys
heard_pairs-two xs ys = ap (filter names_part) (form_pairs-two xs ys) ∙ filter-append names_part (form_pairs xs) (form_pairs ys)

-- ---- a query without a name of a part

or_left : (b c : Bool) → (b || c) ≡ false → b ≡ false
or_left true c h = absurd (cc)
or_left false c h = refl

or_right : (b c : Bool) → (b || c) ≡ false → c ≡ false
or_right true c h = absurd (cc)
or_right false c h = h

none_kept : (ps : List (List ℕ × List ℕ)) → list_any (λ name. has_text name answer_names) (map (λ p. (pair_of p).0) ps) ≡ false → filter names_part (map pair_of ps) ≡ []
none_kept [] h = refl
none_kept (p ∷ ps) h =
    let rest = list_any (λ name. has_text name answer_names) (map (λ q. (pair_of q).0) ps) in
    let here : names_part (pair_of p) ≡ false = or_left (names_part (pair_of p)) rest h in
    ap (λ b. cond b (pair_of p ∷ filter names_part (map pair_of ps)) (filter names_part (map pair_of ps))) here
    ∙ none_kept ps (or_right (names_part (pair_of p)) rest h)

none_heard : (query : List ℕ) → list_any (λ name. has_text name answer_names) (form_names query) ≡ false → heard_pairs query ≡ []
unfolding form_pairs
none_heard query h = none_kept (raw_pairs query) h

pub own_query_ignored : (query form : List ℕ) → list_any (λ name. has_text name answer_names) (form_names query) ≡ false → answer_read (query ++ codes "&" ++ form) ≡ answer_read form
unfolding answer_read
own_query_ignored query form h =
    ap pairs_read
    (ap heard_pairs (append_assoc query (codes "&") form)
    ∙ heard_pairs-two query form
    ∙ ap (λ (front : List Pair). front ++ heard_pairs form) (none_heard query h))
