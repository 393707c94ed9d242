-- The six response types: their numbers, their texts, and where their answers stand.
use Rattle.std.proofs.Common.{◌≡◌, ◌≤◌, ◌<◌, ◌+◌, ◌↔◌, ℕ, zero, suc, List, [], ◌∷◌, ◌++◌, Bool, true, false, ◌||◌, cond, codes, Option, Some, None, is_some, slice_get, refl, sym, ◌∙◌, arith, true≢false, drop}
use Rattle.std.specs.List.{list_any, position_from, join_with_byte, AllByRecursion}
use Rattle.std.specs.Str.{bytes_eq}
use Rattle.std.proofs.lemmas.Slice.Eq.{bytes_eq-Decides}
use Rattle.sso_base.specs.Texts.{has_text}
use Rattle.sso_base.proofs.ListSteps.{place_below}
use Rattle.oidc_words.specs.Words.{has_word, chosen, orders}
use Rattle.oidc_words.specs.Types.{code_word, id_token_word, token_word, type_choices, types_text, types_of_number, response_types, spellings, type_number, is_response_type, is_in_fragment}
use Rattle.oidc_words.proofs.Asking.{at_name}

-- ---- places in lists

from_test : {A : Type 0} (f : A → Bool) (xs : List A) (n k : ℕ) (b : Bool) → (position_from f (n + 1) xs ≡ Some k → n + 1 ≤ k) → cond b (Some n) (position_from f (n + 1) xs) ≡ Some k → n ≤ k
from_test f xs n k true rest h = let e : n ≡ k = cc in omega (arith, e)
from_test f xs n k false rest h = omega (arith, rest h)

from_on : {A : Type 0} (f : A → Bool) (xs : List A) (n k : ℕ) → position_from f n xs ≡ Some k → n ≤ k
from_on f [] n k h = absurd (cc)
from_on f (x ∷ xs) n k h = from_test f xs n k (f x) (from_on f xs (n + 1) k) h

-- ---- their numbers

pub number_below : (t : List ℕ) (n : ℕ) → type_number t ≡ Some n → n < 6
unfolding spellings
number_below t n h = place_below (λ ts. has_text t ts) 0 n spellings h

-- ---- their texts

pub text_read : (n : ℕ) → n < 6 → type_number (types_text (types_of_number (Some n))) ≡ Some n
unfolding spellings
text_read zero l = refl
text_read (suc zero) l = refl
text_read (suc (suc zero)) l = refl
text_read (suc (suc (suc zero))) l = refl
text_read (suc (suc (suc (suc zero)))) l = refl
text_read (suc (suc (suc (suc (suc zero))))) l = refl
text_read (suc (suc (suc (suc (suc (suc n)))))) l = absurd (omega (arith, l))

-- its words in any order
pub in_any_order : (n : ℕ) → n < 6 → AllByRecursion (λ ws. type_number (join_with_byte 32 ws) ≡ Some n) (orders (chosen (type_choices (types_of_number (Some n)))))
unfolding spellings
in_any_order zero l = (refl, tt)
in_any_order (suc zero) l = (refl, tt)
in_any_order (suc (suc zero)) l = (refl, (refl, tt))
in_any_order (suc (suc (suc zero))) l = (refl, (refl, tt))
in_any_order (suc (suc (suc (suc zero)))) l = (refl, (refl, tt))
in_any_order (suc (suc (suc (suc (suc zero))))) l = (refl, (refl, (refl, (refl, (refl, (refl, tt))))))
in_any_order (suc (suc (suc (suc (suc (suc n)))))) l = absurd (omega (arith, l))

pub texts_in_order : (n : ℕ) → n < 6 → slice_get response_types n ≡ Some (types_text (types_of_number (Some n)))
texts_in_order zero l = refl
texts_in_order (suc zero) l = refl
texts_in_order (suc (suc zero)) l = refl
texts_in_order (suc (suc (suc zero))) l = refl
texts_in_order (suc (suc (suc (suc zero)))) l = refl
texts_in_order (suc (suc (suc (suc (suc zero))))) l = refl
texts_in_order (suc (suc (suc (suc (suc (suc n)))))) l = absurd (omega (arith, l))

-- ---- their words

any_further : {A : Type 0} (f : A → Bool) (xs ys : List A) → list_any f ys ≡ true → list_any f (xs ++ ys) ≡ true
any_further f [] ys h = h
any_further f (x ∷ xs) ys h = further_at (f x) (list_any f (xs ++ ys)) (any_further f xs ys h)
  where
    further_at : (a b : Bool) → b ≡ true → (a || b) ≡ true
    further_at true b h = refl
    further_at false b h = h

any_before : {A : Type 0} (f : A → Bool) (xs ys : List A) → list_any f xs ≡ true → list_any f (xs ++ ys) ≡ true
any_before f [] ys h = absurd (true≢false (sym h))
any_before f (x ∷ xs) ys h = before_at (f x) (list_any f xs) (list_any f (xs ++ ys)) h (any_before f xs ys)
  where
    before_at : (a b c : Bool) → (a || b) ≡ true → (b ≡ true → c ≡ true) → (a || c) ≡ true
    before_at true b c h g = refl
    before_at false b c h g = g h

-- the lists, one behind another
abbrev gathered : List (List (List ℕ)) → List (List ℕ)
gathered [] = []
gathered (ts ∷ rest) = ts ++ gathered rest

spelled_at : (t : List ℕ) (ts : List (List ℕ)) (rest : List (List (List ℕ))) (n : ℕ) (b : Bool) (o : Option ℕ) → has_text t ts ≡ b → is_some (cond b (Some n) o) ≡ true
    → (is_some o ≡ true → has_text t (gathered rest) ≡ true) → has_text t (ts ++ gathered rest) ≡ true
spelled_at t ts rest n true o is h later = any_before (bytes_eq t) ts (gathered rest) is
spelled_at t ts rest n false o is h later = any_further (bytes_eq t) ts (gathered rest) (later h)

spelled : (t : List ℕ) (n : ℕ) (all : List (List (List ℕ))) → is_some (position_from (λ ts. has_text t ts) n all) ≡ true → has_text t (gathered all) ≡ true
spelled t n [] h = absurd (true≢false (sym h))
spelled t n (ts ∷ rest) h = spelled_at t ts rest n (has_text t ts) (position_from (λ us. has_text t us) (n + 1) rest) refl h (spelled t (n + 1) rest)

-- the type that a text is read as has the words of the text
abbrev HasWords : List ℕ → Type 0
HasWords t = types_of_number (type_number t) ≡ record { code = has_word code_word t; id_token = has_word id_token_word t; token = has_word token_word t }

pub has_its_words : (t : List ℕ) → is_response_type t ≡ true → HasWords t
unfolding spellings
has_its_words t h =
    at_name HasWords (gathered spellings) t
    (refl, (refl, (refl, (refl, (refl, (refl, (refl, (refl, (refl, (refl, (refl, (refl, (refl, (refl, tt))))))))))))))
    (spelled t 0 spellings h)

-- ---- where their answers stand

in_fragment_from_one : (n : ℕ) → 1 ≤ n → n < 6 → is_in_fragment (types_of_number (Some n)) ≡ true
in_fragment_from_one zero h l = absurd (omega (arith, h))
in_fragment_from_one (suc zero) h l = refl
in_fragment_from_one (suc (suc zero)) h l = refl
in_fragment_from_one (suc (suc (suc zero))) h l = refl
in_fragment_from_one (suc (suc (suc (suc zero)))) h l = refl
in_fragment_from_one (suc (suc (suc (suc (suc zero))))) h l = refl
in_fragment_from_one (suc (suc (suc (suc (suc (suc n)))))) h l = absurd (omega (arith, l))

to_type : (b : Bool) (q : Option ℕ) → is_in_fragment (types_of_number (cond (b || false) (Some 0) q)) ≡ true → (is_some (cond (b || false) (Some 0) q) ≡ true) × (b ≡ false)
to_type true q h = absurd (true≢false (sym h))
to_type false None h = absurd (true≢false (sym h))
to_type false (Some n) h = (refl, refl)

from_type : (b : Bool) (q : Option ℕ) → ((k : ℕ) → q ≡ Some k → 1 ≤ k) → ((k : ℕ) → cond (b || false) (Some 0) q ≡ Some k → k < 6) → is_some (cond (b || false) (Some 0) q) ≡ true → b ≡ false → is_in_fragment (types_of_number (cond (b || false) (Some 0) q)) ≡ true
from_type true q above below known h = absurd (true≢false h)
from_type false None above below known h = absurd (true≢false (sym known))
from_type false (Some n) above below known h = in_fragment_from_one n (above n refl) (below n refl)

differs : (t : List ℕ) → bytes_eq t (codes "code") ≡ false → t ≡ codes "code" → ⊥
differs t h e = true≢false (sym ((bytes_eq-Decides t (codes "code")).1 e) ∙ h)

unlike : (t : List ℕ) (b : Bool) → bytes_eq t (codes "code") ≡ b → (t ≡ codes "code" → ⊥) → b ≡ false
unlike t true is h = absurd (h ((bytes_eq-Decides t (codes "code")).0 is))
unlike t false is h = refl

pub answers_there : (t : List ℕ) → is_in_fragment (types_of_number (type_number t)) ≡ true → (is_response_type t ≡ true) × (t ≡ codes "code" → ⊥)
unfolding spellings
answers_there t h = let both = to_type (bytes_eq t (codes "code")) _ h in (both.0, differs t both.1)

pub is_there : (t : List ℕ) → is_response_type t ≡ true → (t ≡ codes "code" → ⊥) → is_in_fragment (types_of_number (type_number t)) ≡ true
unfolding spellings
is_there t known other =
    from_type (bytes_eq t (codes "code")) _ (λ k e. from_on (λ us. has_text t us) (drop 1 spellings) 1 k e) (number_below t) known
    (unlike t (bytes_eq t (codes "code")) refl other)

pub all_but_code : (t : List ℕ) → (is_in_fragment (types_of_number (type_number t)) ≡ true) ↔ ((is_response_type t ≡ true) × (t ≡ codes "code" → ⊥))
all_but_code t = (answers_there t, λ both. is_there t both.0 both.1)
