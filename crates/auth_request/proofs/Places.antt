-- The place of the client of an id: where it is, it has the id; and where no two have one id, it is the only such place.
use Rattle.std.proofs.Common.{◌≡◌, ◌+◌, ℕ, zero, suc, List, [], ◌∷◌, map, Bool, true, false, ◌||◌, cond, Option, Some, slice_get, refl, sym, ap, ◌∙◌, arith, true≢false}
use Rattle.std.specs.List.{position_from}
use Rattle.std.specs.Str.{bytes_eq}
use Rattle.std.proofs.lemmas.Slice.Eq.{bytes_eq-Decides}
use Rattle.sso_base.proofs.Decided.{same}
use Rattle.sso_base.specs.Texts.{has_text}
use Rattle.client_registry.specs.declared.records.Client.{Client}
use Rattle.client_registry.specs.Records.{client_place}
use Rattle.client_registry.specs.Registered.{AreApart}

-- what stands at the first place that passes, passes
record Passes {A : Type 0} (f : A → Bool) (xs : List A) (n k : ℕ) : Type 0 where
  past : ℕ
  place : k ≡ n + past
  passes : (x : A) → slice_get xs past ≡ Some x → f x ≡ true

here : {A : Type 0} (f : A → Bool) (y : A) (ys : List A) (n k : ℕ) → f y ≡ true → n ≡ k → Passes f (y ∷ ys) n k
here f y ys n k t e = record { past = 0; place = omega (arith, e); passes = λ x there. let is : y ≡ x = cc in ap f (sym is) ∙ t }

later : {A : Type 0} (f : A → Bool) (y : A) (ys : List A) (n k : ℕ) → Passes f ys (n + 1) k → Passes f (y ∷ ys) n k
later f y ys n k p = record { past = suc p.past; place = omega (arith, p.place); passes = p.passes }

by_test : {A : Type 0} (f : A → Bool) (y : A) (ys : List A) (n k : ℕ) (b : Bool) → f y ≡ b → (position_from f (n + 1) ys ≡ Some k → Passes f ys (n + 1) k) → cond b (Some n) (position_from f (n + 1) ys) ≡ Some k → Passes f (y ∷ ys) n k
by_test f y ys n k true t rest h = here f y ys n k t (cc)
by_test f y ys n k false t rest h = later f y ys n k (rest h)

passes_at : {A : Type 0} (f : A → Bool) (xs : List A) (n k : ℕ) → position_from f n xs ≡ Some k → Passes f xs n k
passes_at f [] n k h = absurd (cc)
passes_at f (y ∷ ys) n k h = by_test f y ys n k (f y) refl (passes_at f ys (n + 1) k) h

at_zero : {A : Type 0} (f : A → Bool) (xs : List A) (k : ℕ) (x : A) → Passes f xs 0 k → slice_get xs k ≡ Some x → f x ≡ true
at_zero f xs k x p there = let is : k ≡ p.past = omega (arith, p.place) in p.passes x (ap (slice_get xs) (sym is) ∙ there)

pub has_id : (id : List ℕ) (clients : List Client) (n : ℕ) (k : Client) → client_place id clients ≡ Some n → slice_get clients n ≡ Some k → k.id ≡ id
has_id id clients n k h there = (bytes_eq-Decides k.id id).0 (at_zero _ clients n k (passes_at _ clients 0 n h) there)

-- ---- the only place

or_true : (a b : Bool) → b ≡ true → (a || b) ≡ true
or_true true b h = refl
or_true false b h = h

-- what stands at a place stands in the list
among : (id : List ℕ) (ks : List Client) (m : ℕ) (k : Client) → slice_get ks m ≡ Some k → id ≡ k.id → has_text id (map (λ (x : Client). x.id) ks) ≡ true
among id [] m k there is = absurd (cc)
among id (y ∷ ys) zero k there is =
    let one : k ≡ y = cc in
    rw (same id y.id (is ∙ ap (λ (x : Client). x.id) one)) refl
among id (y ∷ ys) (suc m) k there is = or_true (bytes_eq id y.id) _ (among id ys m k there is)

abbrev place_from : List ℕ → ℕ → List Client → Option ℕ
place_from id n ks = position_from (λ (x : Client). bytes_eq x.id id) n ks

not_here : (id : List ℕ) (y : Client) (ys : List Client) (n m : ℕ) (k : Client) (b : Bool) → bytes_eq y.id id ≡ b → has_text y.id (map (λ (x : Client). x.id) ys) ≡ false → slice_get ys m ≡ Some k → k.id ≡ id
    → place_from id (n + 1) ys ≡ Some (n + suc m) → cond b (Some n) (place_from id (n + 1) ys) ≡ Some (n + suc m)
not_here id y ys n m k true t apart there is rest =
    let one : y.id ≡ k.id = (bytes_eq-Decides y.id id).0 t ∙ sym is in
    absurd (true≢false (sym (among y.id ys m k there one) ∙ apart))
not_here id y ys n m k false t apart there is rest = rest

only_at : (id : List ℕ) (ks : List Client) (n m : ℕ) (k : Client) → AreApart (map (λ (x : Client). x.id) ks) → slice_get ks m ≡ Some k → k.id ≡ id → place_from id n ks ≡ Some (n + m)
only_at id [] n m k apart there is = absurd (cc)
only_at id (y ∷ ys) n zero k apart there is =
    let one : y ≡ k = cc in
    let t : bytes_eq y.id id ≡ true = same y.id id (ap (λ (x : Client). x.id) one ∙ is) in
    let e : n ≡ n + 0 = omega arith in
    rw t (ap Some e)
only_at id (y ∷ ys) n (suc m) k apart there is =
    let e : (n + 1) + m ≡ n + suc m = omega arith in
    not_here id y ys n m k (bytes_eq y.id id) refl apart.0 there is (only_at id ys (n + 1) m k apart.1 there is ∙ ap Some e)

pub only_place : (id : List ℕ) (clients : List Client) (n : ℕ) (k : Client) → AreApart (map (λ (x : Client). x.id) clients) → slice_get clients n ≡ Some k → k.id ≡ id → client_place id clients ≡ Some n
only_place id clients n k apart there is = only_at id clients 0 n k apart there is ∙ ap Some (omega arith)
