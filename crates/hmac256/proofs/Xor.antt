-- Lists of bytes, xored byte by byte.
use Rattle.std.proofs.Common.{◌≡◌, ℕ, zero, suc, ◌<◌, ◌≤◌, List, [], ◌∷◌, ◌++◌, length, get_or, refl, sym, ap, ap₂, ◌∙◌, arith}
use Rattle.std.specs.Prelude.{bit_xor, replicate}
use Rattle.std.specs.Int.Bits.{xor_zero_l, xor_zero_r, xor_assoc}
use Rattle.hmac256.specs.Hmac.{xor_lists, xor_all}

pub xor_lists_by_index : (xs ys zs : List ℕ) → length zs ≡ length xs → length ys ≡ length xs
    → ((k : ℕ) → k < length xs → get_or zs k 0 ≡ bit_xor (get_or xs k 0) (get_or ys k 0)) → zs ≡ xor_lists xs ys
xor_lists_by_index [] ys [] h l e = refl
xor_lists_by_index [] ys (z ∷ zs) h l e = absurd (omega arith)
xor_lists_by_index (x ∷ xs) [] zs h l e = absurd (omega arith)
xor_lists_by_index (x ∷ xs) (y ∷ ys) [] h l e = absurd (omega arith)
xor_lists_by_index (x ∷ xs) (y ∷ ys) (z ∷ zs) h l e =
    ap₂ (λ a b. a ∷ b) (e 0 (omega arith)) (xor_lists_by_index xs ys zs (omega arith) (omega arith) (λ k b. e (suc k) (omega arith)))

pub xor_lists_assoc : (xs ys zs : List ℕ) → xor_lists (xor_lists xs ys) zs ≡ xor_lists xs (xor_lists ys zs)
xor_lists_assoc [] ys zs = refl
xor_lists_assoc (x ∷ xs) [] zs = refl
xor_lists_assoc (x ∷ xs) (y ∷ ys) [] = refl
xor_lists_assoc (x ∷ xs) (y ∷ ys) (z ∷ zs) = ap₂ (λ a b. a ∷ b) (xor_assoc x y z) (xor_lists_assoc xs ys zs)

pub xor_lists-zeros : (n : ℕ) (xs : List ℕ) → length xs ≤ n → xor_lists xs (replicate n 0) ≡ xs
xor_lists-zeros n [] h = refl
xor_lists-zeros zero (x ∷ xs) h = absurd (omega arith)
xor_lists-zeros (suc n) (x ∷ xs) h = ap₂ (λ a b. a ∷ b) (xor_zero_r x) (xor_lists-zeros n xs (omega arith))

pub zeros-xor_lists : (n : ℕ) (xs : List ℕ) → length xs ≤ n → xor_lists (replicate n 0) xs ≡ xs
zeros-xor_lists zero [] h = refl
zeros-xor_lists (suc n) [] h = refl
zeros-xor_lists zero (x ∷ xs) h = absurd (omega arith)
zeros-xor_lists (suc n) (x ∷ xs) h = ap₂ (λ a b. a ∷ b) (xor_zero_l x) (zeros-xor_lists n xs (omega arith))

-- one block more, at the end
pub xor_all-push : (bs : List (List ℕ)) (b : List ℕ) → length b ≡ 32 → xor_all (bs ++ b ∷ []) ≡ xor_lists (xor_all bs) b
xor_all-push [] b h = xor_lists-zeros 32 b (omega arith) ∙ sym (zeros-xor_lists 32 b (omega arith))
xor_all-push (x ∷ xs) b h = ap (xor_lists x) (xor_all-push xs b h) ∙ sym (xor_lists_assoc x (xor_all xs) b)
