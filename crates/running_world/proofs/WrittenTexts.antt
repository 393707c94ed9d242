-- Texts are noted one after the other.
use Rattle.std.proofs.Common.{◌≡◌, ℕ, suc, ◌+◌, ◌<◌, ◌==◌, ◌&&◌, ◌||◌, Bool, true, false, List, [], ◌∷◌, ◌++◌, length, map, take, drop, get_or, slice_get, Option, Some, refl, sym, ap, ◌∙◌, append_assoc, add-one, arith, drop-cons}
use Rattle.std.specs.List.{list_any}
use Rattle.std.specs.Str.{bytes_eq}
use Rattle.std.proofs.lemmas.List.{take-append-drop, take_more, length-take-le}
use Rattle.std.proofs.lemmas.List.Folds.{list_any-append}
use Rattle.std.proofs.lemmas.Option.{slice_get-get_or}
use Rattle.sso_base.specs.Words.{Text}
use Rattle.client_registry.specs.declared.records.Client.{Client}
use Rattle.client_registry.specs.Configuration.{Configuration}
use Rattle.client_registry.specs.ClientSets.{has_client}
use Rattle.client_registry.specs.Numbers.{no_client}
use Rattle.op_issue.specs.declared.sign_out.SignOut.{SignOut}
use Rattle.op_issue.specs.LogoutTokens.{issued_logout}
use Rattle.sso_places.specs.Told.{told_if, told_from}
use Rattle.sso_places.specs.Tokens.{TokenText, is_token}
use Rattle.world_index.specs.Writing.{is_written_for}
use Rattle.running_world.specs.Noting.{told_by, logout_written, AreNoted, ArePartlyNoted}

abbrev pub TextLists : Type 0
TextLists = List (List Text)

-- ---- booleans

or_false : (b f : Bool) → (b || f) ≡ ((b || false) || f)
or_false true f = refl
or_false false f = refl

or_swap : (p q f : Bool) → (q || (p || f)) ≡ ((p || q) || f)
or_swap true true f = refl
or_swap true false f = refl
or_swap false true f = refl
or_swap false false f = refl

or_same : (p f : Bool) → (p || (p || f)) ≡ (p || f)
or_same true f = refl
or_same false f = refl

or_within : (p q r before middle after : Bool) → (q || after) ≡ (q || middle) → middle ≡ (p || before) → ((p || (q || r)) || after) ≡ ((p || (q || r)) || before)
or_within true q r before middle after second first = refl
or_within false true r before middle after second first = refl
or_within false false r before middle after second first = ap (λ b. r || b) (second ∙ first)

-- ---- texts

pub none_noted : (before : TextLists) → AreNoted before before []
none_noted before t client = refl

pub one_noted : (before after : TextLists) (client : ℕ) (text : Text) → ((t : Text) (other : ℕ) → is_written_for after t other ≡ ((client == other && bytes_eq text t) || is_written_for before t other)) → AreNoted before after ((client, text) ∷ [])
one_noted before after client text noted t other =
    noted t other ∙ or_false (client == other && bytes_eq text t) (is_written_for before t other)

pub none_partly : (before : TextLists) (texts : List TokenText) → ArePartlyNoted before before texts
none_partly before texts t client = refl

pub whole_partly : (before after : TextLists) (texts : List TokenText) → AreNoted before after texts → ArePartlyNoted before after texts
whole_partly before after texts noted t client =
    let any : Bool = list_any (is_token (client, t)) texts in
    ap (λ b. any || b) (noted t client) ∙ or_same any (is_written_for before t client)

pub more_noted : (before middle after : TextLists) (xs ys : List TokenText) → AreNoted before middle xs → AreNoted middle after ys → AreNoted before after (xs ++ ys)
more_noted before middle after xs ys first second t client =
    let p : Bool = list_any (is_token (client, t)) xs in
    let q : Bool = list_any (is_token (client, t)) ys in
    let f : Bool = is_written_for before t client in
    second t client
    ∙ ap (λ b. q || b) (first t client)
    ∙ or_swap p q f
    ∙ ap (λ b. b || f) (sym (list_any-append (is_token (client, t)) xs ys))

pub more_partly : (before middle after : TextLists) (xs ys zs : List TokenText) → AreNoted before middle xs → ArePartlyNoted middle after ys → ArePartlyNoted before after (xs ++ (ys ++ zs))
more_partly before middle after xs ys zs first second t client =
    let test : TokenText → Bool = is_token (client, t) in
    let whole : list_any test (xs ++ (ys ++ zs)) ≡ (list_any test xs || (list_any test ys || list_any test zs)) =
    list_any-append test xs (ys ++ zs) ∙ ap (λ b. list_any test xs || b) (list_any-append test ys zs) in
    ap (λ b. b || is_written_for after t client) whole
    ∙ or_within (list_any test xs) (list_any test ys) (list_any test zs) (is_written_for before t client) (is_written_for middle t client) (is_written_for after t client) (second t client) (first t client)
    ∙ ap (λ b. b || is_written_for before t client) (sym whole)

-- ---- the logout tokens of the clients up to a number

told_append : (answered : List Bool) (n : ℕ) (xs ys : List Client) → told_from answered n (xs ++ ys) ≡ told_from answered n xs ++ told_from answered (n + length xs) ys
told_append answered n [] ys =
    let same : n ≡ n + 0 = omega arith in
    ap (λ k. told_from answered k ys) same
told_append answered n (x ∷ xs) ys =
    let here : List ℕ = told_if n (has_client n answered) x.logout in
    let next : (n + 1) + length xs ≡ n + suc (length xs) = omega arith in
    ap (λ ns. here ++ ns) (told_append answered (n + 1) xs ys ∙ ap (λ k. told_from answered (n + 1) xs ++ told_from answered k ys) next)
    ∙ sym (append_assoc here (told_from answered (n + 1) xs) (told_from answered (n + suc (length xs)) ys))

map_append : {A B : Type 0} (f : A → B) (xs ys : List A) → map f (xs ++ ys) ≡ map f xs ++ map f ys
map_append f [] ys = refl
map_append {A} {B} f (x ∷ xs) ys = ap (λ (zs : List B). f x ∷ zs) (map_append f xs ys)

nothing_behind : (ns : List ℕ) → ns ++ [] ≡ ns
nothing_behind [] = refl
nothing_behind (n ∷ ns) = ap (λ ms. n ∷ ms) (nothing_behind ns)

module _ (c : Configuration) (out : SignOut) (answered : List Bool) where
  abbrev pub tokens_for : List ℕ → List TokenText
  tokens_for ns = map (λ client. (client, issued_logout c client out)) ns

  abbrev pub tokens_up_to : ℕ → List TokenText
  tokens_up_to i = tokens_for (told_from answered 0 (take i c.clients))

  abbrev pub tokens_behind : ℕ → List TokenText
  tokens_behind i = tokens_for (told_from answered (i + 1) (drop (i + 1) c.clients))

  module _ (i : ℕ) (low : i < length c.clients) where
    abbrev client : Client
    client = get_or c.clients i no_client

    at : slice_get c.clients i ≡ Some client
    at = slice_get-get_or c.clients i no_client low

    front_length : 0 + length (take i c.clients) ≡ i
    front_length =
        let long : length (take i c.clients) ≡ i = length-take-le i c.clients (omega arith) in
        omega arith

    one_told : told_from answered i (client ∷ []) ≡ told_by (slice_get c.clients i) answered i
    one_told =
        nothing_behind (told_if i (has_client i answered) client.logout)
        ∙ ap (λ (o : Option Client). told_by o answered i) (sym at)

    -- with the next client
    pub tokens_more : tokens_up_to (i + 1) ≡ tokens_up_to i ++ logout_written c out answered i
    tokens_more =
        let front : List Client = take i c.clients in
        let T : List Client → List ℕ = told_from answered 0 in
        ap tokens_for (ap T (take_more c.clients i no_client low) ∙ told_append answered 0 front (client ∷ []) ∙ ap (λ k. T front ++ told_from answered k (client ∷ [])) front_length ∙ ap (λ ns. T front ++ ns) one_told)
        ∙ map_append (λ client. (client, issued_logout c client out)) (T front) (told_by (slice_get c.clients i) answered i)

    -- all are those before, those of this client, and those after
    pub tokens_within : tokens_for (told_from answered 0 c.clients) ≡ tokens_up_to i ++ (logout_written c out answered i ++ tokens_behind i)
    tokens_within =
        let front : List Client = take i c.clients in
        let rest : List Client = drop (i + 1) c.clients in
        let token : ℕ → TokenText = λ client. (client, issued_logout c client out) in
        let T : List Client → List ℕ = told_from answered 0 in
        let behind : drop i c.clients ≡ client ∷ rest =
        drop-cons c.clients i no_client low ∙ ap (λ k. client ∷ drop k c.clients) (sym (add-one i)) in
        let parts : c.clients ≡ front ++ client ∷ rest = sym (take-append-drop i c.clients) ∙ ap (λ ks. front ++ ks) behind in
        let told : T c.clients ≡ T front ++ (told_by (slice_get c.clients i) answered i ++ told_from answered (i + 1) rest) =
        ap T parts
        ∙ told_append answered 0 front (client ∷ rest)
        ∙ ap (λ k. T front ++ told_from answered k (client ∷ rest)) front_length
        ∙ ap (λ (o : Option Client). T front ++ (told_by o answered i ++ told_from answered (i + 1) rest)) (sym at) in
        ap tokens_for told
        ∙ map_append token (T front) (told_by (slice_get c.clients i) answered i ++ told_from answered (i + 1) rest)
        ∙ ap (λ ts. tokens_up_to i ++ ts) (map_append token (told_by (slice_get c.clients i) answered i) (told_from answered (i + 1) rest))
