-- Clients by their ids and by their numbers.
use Rattle.std.proofs.Common.{◌≡◌, ◌<◌, ℕ, zero, suc, ◌+◌, List, [], ◌∷◌, length, map, Bool, true, false, cond, Option, Some, slice_get, refl, sym, ap, ◌∙◌, arith}
use Rattle.std.specs.List.{position_from}
use Rattle.std.specs.Str.{bytes_eq}
use Rattle.std.proofs.lemmas.Slice.Eq.{bytes_eq-Decides}
use Rattle.client_registry.specs.declared.records.Client.{Client}
use Rattle.client_registry.specs.Records.{client_place}
use Rattle.client_registry.specs.Registered.{AreApart}
use Rattle.sso_base.specs.Texts.{has_text}
use Rattle.token_endpoint.proofs.Joined.{either_false}

abbrev place_from : List ℕ → ℕ → List Client → Option ℕ
place_from id n clients = position_from (λ (k : Client). bytes_eq k.id id) n clients

-- ---- what is found has the id

-- the place i, counted from n, is that of a client with the id
pub record HasPlace (id : List ℕ) (n : ℕ) (clients : List Client) (i : ℕ) : Type 0 where
  pub past : ℕ
  pub at : i ≡ n + past
  pub within : past < length clients
  pub client : Client
  pub there : slice_get clients past ≡ Some client
  pub named : client.id ≡ id

place_here : (id : List ℕ) (n i : ℕ) (k : Client) (ks : List Client) → bytes_eq k.id id ≡ true → n ≡ i → HasPlace id n (k ∷ ks) i
place_here id n i k ks is same = record { past = 0; at = omega (arith, same); within = omega arith; client = k; there = refl; named = (bytes_eq-Decides k.id id).0 is }

place_later : (id : List ℕ) (n i : ℕ) (k : Client) (ks : List Client) → HasPlace id (n + 1) ks i → HasPlace id n (k ∷ ks) i
place_later id n i k ks h = record { past = suc h.past; at = omega (arith, h.at); within = omega (arith, h.within); client = h.client; there = h.there; named = h.named }

same_place : (n i : ℕ) → Some n ≡ Some i → n ≡ i
same_place n i h = cc

place_at : (id : List ℕ) (n i : ℕ) (k : Client) (ks : List Client) (t : Bool) → bytes_eq k.id id ≡ t → (place_from id (n + 1) ks ≡ Some i → HasPlace id (n + 1) ks i)
    → cond t (Some n) (place_from id (n + 1) ks) ≡ Some i → HasPlace id n (k ∷ ks) i
place_at id n i k ks true is later h = place_here id n i k ks is (same_place n i h)
place_at id n i k ks false is later h = place_later id n i k ks (later h)

found_from : (id : List ℕ) (n i : ℕ) (ks : List Client) → place_from id n ks ≡ Some i → HasPlace id n ks i
found_from id n i [] h = absurd (cc)
found_from id n i (k ∷ ks) h = place_at id n i k ks (bytes_eq k.id id) refl (found_from id (n + 1) i ks) h

pub place_found : (id : List ℕ) (ks : List Client) (i : ℕ) → client_place id ks ≡ Some i → HasPlace id 0 ks i
place_found id ks i h = found_from id 0 i ks h

pub place_within : (id : List ℕ) (ks : List Client) (i : ℕ) → client_place id ks ≡ Some i → i < length ks
place_within id ks i h = let p = place_found id ks i h in omega (arith, p.at, p.within)

-- ---- where ids differ, a client is found by its id

same_client : (k l : Client) → Some k ≡ Some l → k ≡ l
same_client k l h = cc

other_id : (t : List ℕ) (ks : List Client) (i : ℕ) (k : Client) → has_text t (map (λ (x : Client). x.id) ks) ≡ false → slice_get ks i ≡ Some k → bytes_eq t k.id ≡ false
other_id t [] i k h at = absurd (cc)
other_id t (x ∷ xs) zero k h at =
    let same : x ≡ k = same_client x k at in
    ap (λ (y : Client). bytes_eq t y.id) (sym same) ∙ (either_false (bytes_eq t x.id) (has_text t (map (λ (y : Client). y.id) xs)) h).0
other_id t (x ∷ xs) (suc i) k h at = other_id t xs i k (either_false (bytes_eq t x.id) (has_text t (map (λ (y : Client). y.id) xs)) h).1 at

own_place : (n : ℕ) (ks : List Client) (i : ℕ) (k : Client) → AreApart (map (λ (x : Client). x.id) ks) → slice_get ks i ≡ Some k → place_from k.id n ks ≡ Some (n + i)
own_place n [] i k apart at = absurd (cc)
own_place n (x ∷ xs) zero k apart at =
    let same : x ≡ k = same_client x k at in
    let is : bytes_eq x.id k.id ≡ true = (bytes_eq-Decides x.id k.id).1 (ap (λ (y : Client). y.id) same) in
    let first : n ≡ n + 0 = omega arith in
    rw is (ap Some first)
own_place n (x ∷ xs) (suc i) k apart at =
    let next : n + 1 + i ≡ n + suc i = omega arith in
    rw (other_id x.id xs i k apart.0 at) (own_place (n + 1) xs i k apart.1 at ∙ ap Some next)

pub place_of_client : (ks : List Client) (i : ℕ) (k : Client) → AreApart (map (λ (x : Client). x.id) ks) → slice_get ks i ≡ Some k → client_place k.id ks ≡ Some i
place_of_client ks i k apart at = let this : 0 + i ≡ i = omega arith in own_place 0 ks i k apart at ∙ ap Some this
