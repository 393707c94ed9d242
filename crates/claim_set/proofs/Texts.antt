-- Lists of texts as arrays.
use Rattle.std.proofs.Common.{◌≡◌, ◌≤◌, ◌<◌, ℕ, ◌+◌, List, [], ◌∷◌, ◌++◌, length, take, get_or, false, refl, sym, ap, ap₂, ◌∙◌, arith}
use Rattle.std.proofs.lemmas.List.{take_more}
use Rattle.serde_json.specs.Data.{string, item, items_depth}
use Rattle.serde_json.specs.Written.{items_have_float}
use Rattle.serde_json.specs.View.{view, items_view}
use Rattle.serde_json.specs.declared.value.Value.{Value}
use Rattle.claim_set.specs.Claims.{text_items}

pub whole_texts : (ts : List (List ℕ)) → items_have_float (text_items ts) ≡ false
whole_texts [] = refl
whole_texts (t ∷ ts) = whole_texts ts

pub flat_texts : (ts : List (List ℕ)) → items_depth (text_items ts) ≤ 0
flat_texts [] = omega arith
flat_texts (t ∷ ts) = omega (arith, flat_texts ts)

pub items_push : (vs : List Value) (ts : List (List ℕ)) (v : Value) (t : List ℕ) → items_view vs ≡ text_items ts → view v ≡ string t → items_view (vs ++ v ∷ []) ≡ text_items (ts ++ t ∷ [])
items_push [] [] v t e f = rw f
items_push [] (s ∷ ts) v t e f = absurd (cc)
items_push (w ∷ vs) [] v t e f = absurd (cc)
items_push (w ∷ vs) (s ∷ ts) v t e f =
    let head : view w ≡ string s = cc in
    let rest : items_view vs ≡ text_items ts = cc in
    ap₂ item head (items_push vs ts v t rest f)

pub one_more_text : (vs ws : List Value) (ts : List (List ℕ)) (v : Value) (t : List ℕ) (i : ℕ) → i < length ts → items_view vs ≡ text_items (take i ts) → t ≡ get_or ts i t → view v ≡ string t → ws ≡ vs ++ v ∷ []
    → items_view ws ≡ text_items (take (i + 1) ts)
one_more_text vs ws ts v t i h e f g k =
    let more : take (i + 1) ts ≡ take i ts ++ t ∷ [] = take_more ts i t h ∙ ap (λ y. take i ts ++ y ∷ []) (sym f) in
    rw (k, more) (items_push vs (take i ts) v t e g)
