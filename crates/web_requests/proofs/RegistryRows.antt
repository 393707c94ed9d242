-- What a registry makes one: the client and the party of a redirection URI; and what it keeps of that URI.
use Rattle.std.proofs.Common.{◌≡◌, ◌<◌, ◌+◌, ◌==◌, ◌||◌, ℕ, zero, suc, Bool, true, false, cond, List, [], ◌∷◌, length, map, Option, Some, option_and_then, unwrap_or, slice_get, inl, inr, refl, sym, ap, ◌∙◌, subst, arith, eq-eqb}
use Rattle.std.specs.List.{AllByRecursion, position_from}
use Rattle.std.specs.Str.{bytes_eq}
use Rattle.sso_base.specs.Words.{Text}
use Rattle.sso_base.specs.Texts.{has_text}
use Rattle.sso_base.proofs.RowLaws.{bool_cases, bytes_same, bytes_true, bytes_turn}
use Rattle.registered_url.specs.declared.web_url.WebUrl.{WebUrl}
use Rattle.registered_url.specs.Rule.{url_of}
use Rattle.client_registry.specs.declared.records.Client.{Client}
use Rattle.client_registry.specs.declared.records.Party.{Party}
use Rattle.client_registry.specs.Records.{no_url}
use Rattle.client_registry.specs.Configuration.{Configuration}
use Rattle.client_registry.specs.Numbers.{client_at, party_row, party_client, no_party, no_client}
use Rattle.client_registry.specs.Registered.{has_number, NumbersAreApart, HasNoneOf, AreDisjoint, IsClient, IsRegistry}
use Rattle.login_request.proofs.PartyRows.{KeepRules, client_is_known, rows_keep_rules}
use Rattle.sso_places.specs.Written.{client_of_uri}
use Rattle.web_requests.specs.Locations.{kept_url, registered_url, registered_query}
use Rattle.web_requests.specs.Following.{party_of_uri}

-- ---- texts in lists

either_at : (t uri : Text) (ts : List Text) (b : Bool) → bytes_eq uri t ≡ b → (b || has_text uri ts) ≡ true → (P : Text → Type 0) → P t → (has_text uri ts ≡ true → P uri) → P uri
either_at t uri ts true is h P here later = subst P (sym (bytes_same uri t is)) here
either_at t uri ts false is h P here later = later h

-- what holds of each text holds of one that is there
all_there : (P : Text → Type 0) (ts : List Text) (uri : Text) → AllByRecursion P ts → has_text uri ts ≡ true → P uri
all_there P [] uri all h = absurd (cc)
all_there P (t ∷ ts) uri all h = either_at t uri ts (bytes_eq uri t) refl h P all.0 (λ later. all_there P ts uri all.1 later)

-- ---- rows by number

all_image : {X Y : Type 0} (P : Y → Type 0) (f : X → Y) (xs : List X) (k : ℕ) (d : X) → k < length xs → AllByRecursion P (map f xs) → P (f (unwrap_or (slice_get xs k) d))
all_image P f [] k d low all = absurd (omega arith)
all_image P f (x ∷ xs) zero d low all = all.0
all_image P f (x ∷ xs) (suc k) d low all = all_image P f xs k d (omega arith) all.1

pub some_row : {X : Type 0} (xs : List X) (k : ℕ) (d : X) → k < length xs → slice_get xs k ≡ Some (unwrap_or (slice_get xs k) d)
some_row [] k d low = absurd (omega arith)
some_row (x ∷ xs) zero d low = refl
some_row (x ∷ xs) (suc k) d low = some_row xs k d (omega arith)

-- ---- the client of a redirection URI

uri_from : (ks : List Client) (i k : ℕ) (uri : Text) → k < length ks → AreDisjoint (map (λ (c : Client). c.redirects) ks) → has_text uri (unwrap_or (slice_get ks k) no_client).redirects ≡ true
    → position_from (λ (c : Client). has_text uri c.redirects) i ks ≡ Some (i + k)
uri_from [] i k uri low apart there = absurd (omega arith)
uri_from (y ∷ ks) i zero uri low apart there =
    let F : Bool → Option ℕ = λ b. cond b (Some i) (position_from (λ (c : Client). has_text uri c.redirects) (i + 1) ks) in
    let none : i ≡ i + 0 = omega arith in
    ap F there ∙ ap (λ (n : ℕ). Some n) none
uri_from (y ∷ ks) i (suc k) uri low apart there =
    let F : Bool → Option ℕ = λ b. cond b (Some i) (position_from (λ (c : Client). has_text uri c.redirects) (i + 1) ks) in
    let less : k < length ks = omega arith in
    let none : HasNoneOf (unwrap_or (slice_get ks k) no_client).redirects y.redirects = all_image (λ us. HasNoneOf us y.redirects) (λ (c : Client). c.redirects) ks k no_client less apart.0 in
    let away : has_text uri y.redirects ≡ false = all_there (λ u. has_text u y.redirects ≡ false) (unwrap_or (slice_get ks k) no_client).redirects uri none there in
    let next : (i + 1) + k ≡ i + suc k = omega arith in
    ap F away ∙ uri_from ks (i + 1) k uri less apart.1 there ∙ ap (λ (n : ℕ). Some n) next

pub client_found : (c : Configuration) (n : ℕ) → IsRegistry c → n < length c.parties → client_of_uri c (party_row c n).redirect ≡ Some (party_row c n).client
client_found c n r low =
    let rules : KeepRules (party_row c n) (party_client c n) = rows_keep_rules c n r low in
    let first : 0 + (party_row c n).client ≡ (party_row c n).client = omega arith in
    uri_from c.clients 0 (party_row c n).client (party_row c n).redirect (client_is_known c n r low) r.redirects rules.fit.redirect
    ∙ ap (λ (k : ℕ). Some k) first

-- ---- the party of a redirection URI

-- the rows of two numbers have two clients
client_there : (ps : List Party) (k : ℕ) → k < length ps → (n : ℕ) → (unwrap_or (slice_get ps k) no_party).client ≡ n → has_number n (map (λ (p : Party). p.client) ps) ≡ true
client_there [] k low n is = absurd (omega arith)
client_there (p ∷ ps) zero low n is = ap (λ b. b || has_number n (map (λ (q : Party). q.client) ps)) (eq-eqb n p.client (sym is))
client_there (p ∷ ps) (suc k) low n is = later (n == p.client) (client_there ps k (omega arith) n is)
  where
    later : (b : Bool) {c : Bool} → c ≡ true → (b || c) ≡ true
    later true h = refl
    later false h = h

-- each party of the list that has the URI has this client
abbrev HaveClient : Text → ℕ → List Party → Type 0
HaveClient uri client ps = AllByRecursion (λ (p : Party). bytes_eq p.redirect uri ≡ true → p.client ≡ client) ps

row_client : (ps : List Party) (k : ℕ) (uri : Text) (client : ℕ) → k < length ps → HaveClient uri client ps → bytes_eq (unwrap_or (slice_get ps k) no_party).redirect uri ≡ true → (unwrap_or (slice_get ps k) no_party).client ≡ client
row_client [] k uri client low all is = absurd (omega arith)
row_client (p ∷ ps) zero uri client low all is = all.0 is
row_client (p ∷ ps) (suc k) uri client low all is = row_client ps k uri client (omega arith) all.1 is

party_from : (ps : List Party) (i k : ℕ) (uri : Text) (client : ℕ) → k < length ps → HaveClient uri client ps → NumbersAreApart (map (λ (p : Party). p.client) ps) → bytes_eq (unwrap_or (slice_get ps k) no_party).redirect uri ≡ true
    → position_from (λ (p : Party). bytes_eq p.redirect uri) i ps ≡ Some (i + k)
party_from [] i k uri client low all apart is = absurd (omega arith)
party_from (p ∷ ps) i zero uri client low all apart is =
    let F : Bool → Option ℕ = λ b. cond b (Some i) (position_from (λ (q : Party). bytes_eq q.redirect uri) (i + 1) ps) in
    let none : i ≡ i + 0 = omega arith in
    ap F is ∙ ap (λ (n : ℕ). Some n) none
party_from (p ∷ ps) i (suc k) uri client low all apart is =
    let F : Bool → Option ℕ = λ b. cond b (Some i) (position_from (λ (q : Party). bytes_eq q.redirect uri) (i + 1) ps) in
    let less : k < length ps = omega arith in
    let own : (unwrap_or (slice_get ps k) no_party).client ≡ client = row_client ps k uri client less all.1 is in
    let next : (i + 1) + k ≡ i + suc k = omega arith in
    elim (bool_cases (bytes_eq p.redirect uri)) [
      | inl same ↦ absurd (cc (sym (client_there ps k less p.client (own ∙ sym (all.0 same))) ∙ apart.0))
      | inr other ↦ ap F other ∙ party_from ps (i + 1) k uri client less all.1 apart.1 is ∙ ap (λ (n : ℕ). Some n) next
    ]

one_number : (m n : ℕ) → Some m ≡ Some n → m ≡ n
one_number m n h = cc

-- each party of a registry with a party's redirection URI has that party's client
uri_client : (c : Configuration) (uri : Text) (client : ℕ) → IsRegistry c → client_of_uri c uri ≡ Some client → (k : ℕ) → k < length c.parties → bytes_eq (party_row c k).redirect uri ≡ true → (party_row c k).client ≡ client
uri_client c uri client r found k low is =
    one_number (party_row c k).client client (sym (client_found c k r low) ∙ ap (client_of_uri c) (bytes_same (party_row c k).redirect uri is) ∙ found)

all_rows : (P : Party → Type 0) (ps : List Party) → ((k : ℕ) → k < length ps → P (unwrap_or (slice_get ps k) no_party)) → AllByRecursion P ps
all_rows P [] each = tt
all_rows P (p ∷ ps) each = (each 0 (omega arith), all_rows P ps (λ k low. each (suc k) (omega arith)))

pub party_found : (c : Configuration) (n : ℕ) → IsRegistry c → n < length c.parties → party_of_uri c (party_row c n).redirect ≡ Some n
party_found c n r low =
    let uri = (party_row c n).redirect in
    let client = (party_row c n).client in
    let first : 0 + n ≡ n = omega arith in
    party_from c.parties 0 n uri client low (all_rows (λ (p : Party). bytes_eq p.redirect uri ≡ true → p.client ≡ client) c.parties (uri_client c uri client r (client_found c n r low))) r.one_party (bytes_true uri uri refl)
    ∙ ap (λ (k : ℕ). Some k) first

-- ---- what is kept of it

record PlaceOf (ts : List Text) (uri : Text) (i : ℕ) (f : Text → WebUrl) : Type 0 where
  place : ℕ
  found : position_from (λ t. bytes_eq t uri) i ts ≡ Some (i + place)
  image : slice_get (map f ts) place ≡ Some (f uri)

bytes_swap : (t uri : Text) (b : Bool) → bytes_eq uri t ≡ b → bytes_eq t uri ≡ b
bytes_swap t uri true h = bytes_true t uri (sym (bytes_same uri t h))
bytes_swap t uri false h = bytes_turn uri t h

place_at : (t : Text) (ts : List Text) (uri : Text) (i : ℕ) (f : Text → WebUrl) (b : Bool) → bytes_eq uri t ≡ b → (b || has_text uri ts) ≡ true → (has_text uri ts ≡ true → PlaceOf ts uri (i + 1) f) → PlaceOf (t ∷ ts) uri i f
place_at t ts uri i f true is h later =
    let F : Bool → Option ℕ = λ b. cond b (Some i) (position_from (λ s. bytes_eq s uri) (i + 1) ts) in
    let none : i ≡ i + 0 = omega arith in
    let same : t ≡ uri = sym (bytes_same uri t is) in
    record { place = 0; found = ap F (bytes_swap t uri true is) ∙ ap (λ (n : ℕ). Some n) none; image = ap (λ s. Some (f s)) same }
place_at t ts uri i f false is h later =
    let F : Bool → Option ℕ = λ b. cond b (Some i) (position_from (λ s. bytes_eq s uri) (i + 1) ts) in
    let p : PlaceOf ts uri (i + 1) f = later h in
    let next : (i + 1) + p.place ≡ i + suc p.place = omega arith in
    record { place = suc p.place; found = ap F (bytes_swap t uri false is) ∙ p.found ∙ ap (λ (n : ℕ). Some n) next; image = p.image }

place_of : (ts : List Text) (uri : Text) (i : ℕ) (f : Text → WebUrl) → has_text uri ts ≡ true → PlaceOf ts uri i f
place_of [] uri i f h = absurd (cc)
place_of (t ∷ ts) uri i f h = place_at t ts uri i f (bytes_eq uri t) refl h (place_of ts uri (i + 1) f)

kept_there : (client : Client) (uri : Text) (url : WebUrl) → IsClient client → has_text uri client.redirects ≡ true → url_of uri ≡ Some url → kept_url uri client ≡ Some url
kept_there client uri url rules there is =
    let f : Text → WebUrl = λ t. unwrap_or (url_of t) no_url in
    let p : PlaceOf client.redirects uri 0 f = place_of client.redirects uri 0 f there in
    let first : 0 + p.place ≡ p.place = omega arith in
    ap (option_and_then (slice_get client.redirect_urls)) (p.found ∙ ap (λ (n : ℕ). Some n) first)
    ∙ ap (λ (us : List WebUrl). slice_get us p.place) rules.kept
    ∙ p.image
    ∙ ap (λ (o : Option WebUrl). Some (unwrap_or o no_url)) is

pub url_found : (c : Configuration) (n : ℕ) → IsRegistry c → n < length c.parties → registered_url c (party_row c n).redirect ≡ Some (party_row c n).redirect_url
url_found c n r low =
    let uri = (party_row c n).redirect in
    let rules : KeepRules (party_row c n) (party_client c n) = rows_keep_rules c n r low in
    ap (λ (o : Option ℕ). option_and_then (kept_url uri) (option_and_then (client_at c) o)) (client_found c n r low)
    ∙ ap (option_and_then (kept_url uri)) (some_row c.clients (party_row c n).client no_client (client_is_known c n r low))
    ∙ kept_there (party_client c n) uri (party_row c n).redirect_url rules.client_rules rules.fit.redirect rules.party_rules.redirect

pub query_found : (c : Configuration) (n : ℕ) → IsRegistry c → n < length c.parties → registered_query c (party_row c n).redirect ≡ (party_row c n).redirect_url.query
query_found c n r low = ap (option_and_then (λ (url : WebUrl). url.query)) (url_found c n r low)
