-- What a registry makes one: the client of a redirection URI, the user of a subject, and the party of a client.
use Rattle.std.proofs.Common.{◌≡◌, ℕ, zero, suc, ◌+◌, ◌<◌, ◌==◌, Bool, true, false, cond, List, [], ◌∷◌, length, map, Option, Some, unwrap_or, slice_get, slice_index_or, inl, inr, refl, sym, ap, ◌∙◌, subst, eq-eqb, ◌≤◌, arith}
use Rattle.std.proofs.lemmas.Bool.{cases_lt}
use Rattle.std.proofs.lemmas.Option.{same_Some}
use Rattle.std.specs.Str.{bytes_eq}
use Rattle.std.specs.List.{AllByRecursion, position_from}
use Rattle.sso_base.specs.Words.{Text}
use Rattle.sso_base.proofs.RowLaws.{bool_cases, bytes_same, bytes_true}
use Rattle.sso_model.specs.Lists.{Has}
use Rattle.sso_model.proofs.ListLaws.{all_has}
use Rattle.sso_base.specs.Texts.{has_text}
use Rattle.client_registry.specs.declared.records.Client.{Client}
use Rattle.client_registry.specs.declared.records.Party.{Party}
use Rattle.client_registry.specs.Configuration.{Configuration, subject_at}
use Rattle.client_registry.specs.Registered.{AreApart, NumbersAreApart, HasNoneOf, AreDisjoint, IsRegistry}
use Rattle.client_registry.specs.Numbers.{no_party, party_row}
use Rattle.sso_places.specs.Written.{client_of_uri}
use Rattle.sso_places.specs.Reading.{user_of_subject}
use Rattle.sso_places.proofs.Lists.{any_none, any_has, index_has}

-- ---- rows by number

pub get_some : {X : Type 0} (xs : List X) (k : ℕ) → k < length xs → (x : X) × (slice_get xs k ≡ Some x)
get_some [] k low = absurd (omega arith)
get_some (x ∷ xs) zero low = (x, refl)
get_some (x ∷ xs) (suc k) low = get_some xs k (omega arith)

-- what is true for each is true for the one with a number
pub all_row : {X : Type 0} (P : X → Type 0) (xs : List X) (k : ℕ) (d : X) → AllByRecursion P xs → k < length xs → P (unwrap_or (slice_get xs k) d)
all_row P [] k d all low = absurd (omega arith)
all_row P (x ∷ xs) zero d all low = all.0
all_row P (x ∷ xs) (suc k) d all low = all_row P xs k d all.1 (omega arith)

all_index : {X : Type 0} (P : X → Type 0) (xs : List X) (k : ℕ) (d : X) → AllByRecursion P xs → k < length xs → P (slice_index_or xs k d)
all_index P [] k d all low = absurd (omega arith)
all_index P (x ∷ xs) zero d all low = all.0
all_index P (x ∷ xs) (suc k) d all low = all_index P xs k d all.1 (omega arith)

all_image : {X Y : Type 0} (P : Y → Type 0) (f : X → Y) (xs : List X) (k : ℕ) (x : X) → AllByRecursion P (map f xs) → slice_get xs k ≡ Some x → P (f x)
all_image P f [] k x all at = absurd (cc)
all_image {X} P f (y ∷ ys) zero x all at = (let same : y ≡ x = cc in let Q : X → Type 0 = λ z. P (f z) in subst Q same all.0)
all_image P f (y ∷ ys) (suc k) x all at = all_image P f ys k x all.1 at

-- ---- the client of a redirection URI

uri_from : (ks : List Client) (i k : ℕ) (client : Client) (uri : Text) → AreDisjoint (map (λ (c : Client). c.redirects) ks) → slice_get ks k ≡ Some client → has_text uri client.redirects ≡ true → Has client.redirects uri
    → position_from (λ (c : Client). has_text uri c.redirects) i ks ≡ Some (i + k)
uri_from [] i k client uri apart at there has = absurd (cc)
uri_from (y ∷ ks) i zero client uri apart at there has =
    let F : Bool → Option ℕ = λ b. cond b (Some i) (position_from (λ (c : Client). has_text uri c.redirects) (i + 1) ks) in
    let same : y ≡ client = cc in
    let T : Client → Bool = λ c. has_text uri c.redirects in
    let none : i ≡ i + 0 = omega arith in
    ap F (ap T same ∙ there) ∙ ap (λ (n : ℕ). Some n) none
uri_from (y ∷ ks) i (suc k) client uri apart at there has =
    let F : Bool → Option ℕ = λ b. cond b (Some i) (position_from (λ (c : Client). has_text uri c.redirects) (i + 1) ks) in
    let none : HasNoneOf client.redirects y.redirects = all_image (λ us. HasNoneOf us y.redirects) (λ (c : Client). c.redirects) ks k client apart.0 at in
    let away : has_text uri y.redirects ≡ false = all_has (λ u. has_text u y.redirects ≡ false) client.redirects uri none has in
    let next : (i + 1) + k ≡ i + suc k = omega arith in
    ap F away ∙ uri_from ks (i + 1) k client uri apart.1 at there has ∙ ap (λ (n : ℕ). Some n) next

pub uri_finds : (c : Configuration) (k : ℕ) (client : Client) (uri : Text) → IsRegistry c → slice_get c.clients k ≡ Some client → has_text uri client.redirects ≡ true → client_of_uri c uri ≡ Some k
uri_finds c k client uri registry at there =
    let found = any_has (bytes_eq uri) client.redirects there in
    let has : Has client.redirects uri = subst (Has client.redirects) (sym (bytes_same uri found.0 found.2)) found.1 in
    let first : 0 + k ≡ k = omega arith in
    uri_from c.clients 0 k client uri registry.redirects at there has ∙ ap (λ (n : ℕ). Some n) first

-- ---- the user of a subject

-- a place is found no lower than where the search begins
position_low : (ts : List Text) (i k : ℕ) (sub : Text) → position_from (λ t. bytes_eq t sub) i ts ≡ Some k → i ≤ k
position_low [] i k sub found = cc
position_low (t ∷ ts) i k sub found =
    let F : Bool → Option ℕ = λ b. cond b (Some i) (position_from (λ u. bytes_eq u sub) (i + 1) ts) in
    elim (bool_cases (bytes_eq t sub)) [
      | inl e ↦ (let same : i ≡ k = same_Some i k (sym (ap F e) ∙ found) in omega arith)
      | inr e ↦ (let low : i + 1 ≤ k = position_low ts (i + 1) k sub (sym (ap F e) ∙ found) in omega arith)
    ]

subject_from : (ts : List Text) (i k : ℕ) → AreApart ts → k < length ts → position_from (λ t. bytes_eq t (slice_index_or ts k [])) i ts ≡ Some (i + k)
subject_from [] i k apart low = absurd (omega arith)
subject_from (t ∷ ts) i zero apart low =
    let F : Bool → Option ℕ = λ b. cond b (Some i) (position_from (λ u. bytes_eq u t) (i + 1) ts) in
    let none : i ≡ i + 0 = omega arith in
    ap F (bytes_true t t refl) ∙ ap (λ (n : ℕ). Some n) none
subject_from (t ∷ ts) i (suc k) apart low =
    let sub : Text = slice_index_or ts k [] in
    let F : Bool → Option ℕ = λ b. cond b (Some i) (position_from (λ u. bytes_eq u sub) (i + 1) ts) in
    let away : bytes_eq t sub ≡ false = any_none (bytes_eq t) ts sub apart.0 (index_has ts k [] (omega arith)) in
    let next : (i + 1) + k ≡ i + suc k = omega arith in
    ap F away ∙ subject_from ts (i + 1) k apart.1 (omega arith) ∙ ap (λ (n : ℕ). Some n) next

pub subject_finds : (c : Configuration) (client user : ℕ) → IsRegistry c → client < length c.clients → user < length c.users → user_of_subject c client (subject_at c client user) ≡ Some user
subject_finds c client user registry known there =
    let rows : length c.subjects ≡ length c.clients = registry.rows in
    let row = all_index (λ row. (length row ≡ length c.users) × AreApart row) c.subjects client [] registry.subjects (omega arith) in
    let long : length (slice_index_or c.subjects client []) ≡ length c.users = row.0 in
    let first : 0 + user ≡ user = omega arith in
    subject_from (slice_index_or c.subjects client []) 0 user row.1 (omega arith) ∙ ap (λ (n : ℕ). Some n) first

-- the other way round: a subject that is found is that of the user
subject_there : (ts : List Text) (i k : ℕ) (sub : Text) → position_from (λ t. bytes_eq t sub) i ts ≡ Some (i + k) → slice_index_or ts k [] ≡ sub
subject_there [] i k sub found = cc
subject_there (t ∷ ts) i zero sub found =
    let F : Bool → Option ℕ = λ b. cond b (Some i) (position_from (λ u. bytes_eq u sub) (i + 1) ts) in
    elim (bool_cases (bytes_eq t sub)) [
      | inl e ↦ bytes_same t sub e
      | inr e ↦ (let low : i + 1 ≤ i + 0 = position_low ts (i + 1) (i + 0) sub (sym (ap F e) ∙ found) in absurd (omega arith))
    ]
subject_there (t ∷ ts) i (suc k) sub found =
    let F : Bool → Option ℕ = λ b. cond b (Some i) (position_from (λ u. bytes_eq u sub) (i + 1) ts) in
    elim (bool_cases (bytes_eq t sub)) [
      | inl e ↦ (let same : i ≡ i + suc k = same_Some i (i + suc k) (sym (ap F e) ∙ found) in absurd (omega arith))
      | inr e ↦ (let next : i + suc k ≡ (i + 1) + k = omega arith in subject_there ts (i + 1) k sub (sym (ap F e) ∙ found ∙ ap (λ (n : ℕ). Some n) next))
    ]

pub finds_subject : (c : Configuration) (client user : ℕ) (sub : Text) → user_of_subject c client sub ≡ Some user → subject_at c client user ≡ sub
finds_subject c client user sub found =
    let first : user ≡ 0 + user = omega arith in
    subject_there (slice_index_or c.subjects client []) 0 user sub (found ∙ ap (λ (n : ℕ). Some n) first)

-- ---- the party of a client

row_has : (ps : List Party) (k : ℕ) → k < length ps → Has (map (λ (p : Party). p.client) ps) (unwrap_or (slice_get ps k) no_party).client
row_has [] k low = absurd (omega arith)
row_has (p ∷ ps) zero low = inl refl
row_has (p ∷ ps) (suc k) low = inr (row_has ps k (omega arith))

two_clients : (ps : List Party) (n k : ℕ) → NumbersAreApart (map (λ (p : Party). p.client) ps) → n < k → k < length ps → (unwrap_or (slice_get ps n) no_party).client ≡ (unwrap_or (slice_get ps k) no_party).client → ⊥
two_clients [] n k apart order low same = absurd (omega arith)
two_clients (p ∷ ps) n zero apart order low same = absurd (omega arith)
two_clients (p ∷ ps) zero (suc k) apart order low same =
    let other : ℕ = (unwrap_or (slice_get ps k) no_party).client in
    let away : (p.client == other) ≡ false = any_none (λ m. p.client == m) (map (λ (q : Party). q.client) ps) other apart.0 (row_has ps k (omega arith)) in
    let here : (p.client == other) ≡ true = eq-eqb p.client other same in
    let never : true ≡ false = sym here ∙ away in
    cc
two_clients (p ∷ ps) (suc n) (suc k) apart order low same = two_clients ps n k apart.1 (omega arith) (omega arith) same

pub parties_apart : (c : Configuration) (n k : ℕ) → IsRegistry c → n < length c.parties → k < length c.parties → (party_row c n).client ≡ (party_row c k).client → n ≡ k
parties_apart c n k registry first second same =
    elim (cases_lt n k) [
      | inl less ↦ absurd (two_clients c.parties n k registry.one_party less second same)
      | inr rest ↦
          elim (cases_lt k n) [
            | inl more ↦ absurd (two_clients c.parties k n registry.one_party more first (sym same))
            | inr there ↦ (let up : k ≤ n = rest in let down : n ≤ k = there in omega arith)
          ]
    ]
