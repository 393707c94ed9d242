-- A text without its last slash.
use Rattle.std.proofs.Common.{◌≡◌, ◌≢◌, ◌==◌, ◌||◌, inl, inr, ℕ, Bool, true, false, cond, List, [], ◌∷◌, ◌++◌, refl, sym, ap, ◌∙◌, arith}
use Rattle.std.proofs.lemmas.Bool.{cond-false}
use Rattle.std.proofs.lemmas.Bool.Decides.{nat_tests}
use Rattle.registered_url.proofs.PathBelow.{is_any_slash, any_slash, last_or, IsCut, IsBelow, IsCutFrom}
use Rattle.client_registry.specs.Records.{without_slash}

pub slash_gone : (front : List ℕ) → without_slash (front ++ 47 ∷ []) ≡ front
slash_gone [] = refl
slash_gone (x ∷ []) = refl
slash_gone (x ∷ y ∷ front) = ap (λ t. x ∷ t) (slash_gone (y ∷ front))

pub backslash_gone : (front : List ℕ) → without_slash (front ++ 92 ∷ []) ≡ front
backslash_gone [] = refl
backslash_gone (x ∷ []) = refl
backslash_gone (x ∷ y ∷ front) = ap (λ t. x ∷ t) (backslash_gone (y ∷ front))

lone_kept : (x : ℕ) (a b : Bool) → (x == 47) ≡ a → (x == 92) ≡ b → ((front : List ℕ) → x ∷ [] ≢ front ++ 47 ∷ []) → ((front : List ℕ) → x ∷ [] ≢ front ++ 92 ∷ []) → cond (a || b) [] (x ∷ []) ≡ x ∷ []
lone_kept x true b is back other also = let same : x ≡ 47 = grind (arith, nat_tests) in absurd (other [] (ap (λ y. y ∷ []) same))
lone_kept x false true is back other also = let same : x ≡ 92 = grind (arith, nat_tests) in absurd (also [] (ap (λ y. y ∷ []) same))
lone_kept x false false is back other also = refl

pub slash_kept : (t : List ℕ) → ((front : List ℕ) → t ≢ front ++ 47 ∷ []) → ((front : List ℕ) → t ≢ front ++ 92 ∷ []) → without_slash t ≡ t
slash_kept [] other also = refl
slash_kept (x ∷ []) other also = lone_kept x (x == 47) (x == 92) refl refl other also
slash_kept (x ∷ y ∷ t) other also =
    ap (λ u. x ∷ u)
    (slash_kept (y ∷ t) (λ front e. other (x ∷ front) (ap (λ u. x ∷ u) e)) (λ front e. also (x ∷ front) (ap (λ u. x ∷ u) e)))

-- ---- what is cut

-- what was cut from the text
pub record Cut (t : List ℕ) : Type 0 where
  pub tail : List ℕ
  pub whole : t ≡ without_slash t ++ tail
  pub cut : IsCutFrom (without_slash t) tail

lone_cut : (x : ℕ) (b : Bool) → is_any_slash x ≡ b → (tail : List ℕ) × (x ∷ [] ≡ cond b [] (x ∷ []) ++ tail) × IsCutFrom (cond b [] (x ∷ [])) tail
lone_cut x true is = (x ∷ [], refl, is)
lone_cut x false is = ([], refl, any_slash x ∙ is)

one_before : (x y : ℕ) (t front tail : List ℕ) → y ∷ t ≡ front ++ tail → IsCutFrom front tail → IsCutFrom (x ∷ front) tail
one_before x y t [] [] e h = absurd (cc)
one_before x y t (z ∷ front) [] e h = h
one_before x y t front (a ∷ []) e h = h
one_before x y t front (a ∷ b ∷ rest) e h = absurd h

pub cut_of : (t : List ℕ) → Cut t
cut_of [] = record { tail = []; whole = refl; cut = tt }
cut_of (x ∷ []) = let c = lone_cut x (is_any_slash x) refl in record { tail = c.0; whole = c.1; cut = c.2 }
cut_of (x ∷ y ∷ t) =
    let c : Cut (y ∷ t) = cut_of (y ∷ t) in
    record { tail = c.tail; whole = ap (λ u. x ∷ u) c.whole; cut = one_before x y t (without_slash (y ∷ t)) c.tail c.whole c.cut }

-- ---- a path below another

other_kept : (t : List ℕ) → is_any_slash (last_or 47 t) ≡ false → without_slash t ≡ t
other_kept [] h = refl
other_kept (x ∷ []) h = cond-false _ _ _ h
other_kept (x ∷ y ∷ t) h = ap (λ u. x ∷ u) (other_kept (y ∷ t) h)

front_of : (path front : List ℕ) → IsCut path front → without_slash path ≡ front
front_of path front (inl is) = ap without_slash is ∙ slash_gone front
front_of path front (inr is) = other_kept path is.1 ∙ is.0

pub below_path : (old path new : List ℕ) → IsBelow old path new → new ≡ without_slash old ++ path
below_path old path new b = b.added ∙ ap (λ t. t ++ path) (sym (front_of old b.front b.cut))
