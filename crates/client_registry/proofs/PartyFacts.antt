-- A party fits its client: its redirection URI and its response type are the client's.
use Rattle.std.proofs.Common.{◌≡◌, ◌<◌, ◌+◌, ◌&&◌, ◌||◌, not, ℕ, zero, suc, Bool, true, false, cond, List, [], ◌∷◌, length, map, codes, Option, Some, None, unwrap_or, slice_get, refl, sym, ap, ◌∙◌, subst, arith, true≢false}
use Rattle.std.specs.Prelude.{IfSome}
use Rattle.std.specs.List.{AllByRecursion, list_any, position_from}
use Rattle.std.specs.Str.{bytes_eq}
use Rattle.std.proofs.lemmas.Bool.{false_from_ne_true}
use Rattle.std.proofs.lemmas.Slice.Eq.{bytes_eq-Decides}
use Rattle.toml.specs.Data.{Data}
use Rattle.registered_url.specs.declared.web_url.WebUrl.{WebUrl}
use Rattle.registered_url.specs.Rule.{is_same_server}
use Rattle.configuration_rows.specs.declared.no.RegNo.TheVariants as no
use Rattle.configuration_rows.specs.declared.row.Row.TheVariants as row
use Rattle.configuration_rows.specs.declared.kind.TextRule.TheVariants as text
use Rattle.configuration_rows.specs.declared.kind.Alphabet.TheVariants.{ClientId}
use Rattle.configuration_rows.specs.Refusals.{each}
use Rattle.configuration_rows.specs.declared.version.Version.{Version}
use Rattle.configuration_rows.specs.Paths.{path_text}
use Rattle.configuration_rows.specs.Values.{text_at, text_or, texts_at, url_at}
use Rattle.configuration_rows.specs.Kinds.{passes}
use Rattle.sso_base.specs.Texts.{has_text}
use Rattle.oidc_words.proofs.TypeTexts.{number_below}
use Rattle.oidc_words.specs.Types.{spellings, type_number, is_response_type, types_of_number}
use Rattle.configuration_rows.specs.Rows as keys
use Rattle.configuration_rows.specs.Rows.{lacks_type}
use Rattle.client_registry.specs.declared.records.Client.{Client}
use Rattle.client_registry.specs.declared.records.Party.{Party}
use Rattle.client_registry.specs.Records.{no_url, types_of, client_of_row, client_place, party_of}
use Rattle.client_registry.specs.Registered.{IsLogoutOf, FitsClient}
use Rattle.client_registry.proofs.Guiltless.{unmet, either_false, AllFrom, each_nil, all_weaker, all_rows, rows_weaker}
use Rattle.client_registry.proofs.RowFacts.{KeptText, kept_text, UrlAt, url_found, optional_text_kept, or_else, some_of}
use Rattle.client_registry.proofs.RowRules.{ClientLists, client_lists, Directs, directs_at, PartyLists, party_lists}

same_turned : (xs ys : List ℕ) (t : Bool) → bytes_eq xs ys ≡ t → bytes_eq ys xs ≡ t
same_turned xs ys true h = (bytes_eq-Decides ys xs).1 (sym ((bytes_eq-Decides xs ys).0 h))
same_turned xs ys false h = false_from_ne_true (bytes_eq ys xs) (λ g. true≢false (sym ((bytes_eq-Decides xs ys).1 (sym ((bytes_eq-Decides ys xs).0 g))) ∙ h))

meant : (b : Bool) → not b ≡ false → b ≡ true
meant true h = refl
meant false h = absurd (true≢false h)

-- ---- the client of a party

module _ (v : Version) where
  -- what is needed of the row of a client beside these parties: its id keeps its rule, and its logout URI fits those of
  -- them that use it
  record ClientKept (parties : List Data) (d : Data) : Type 0 where
    pub id : KeptText (text.Name ClientId 1 64) (codes "id") d
    pub logout : keys.misplaced parties (text_at (codes "id") d) (url_at (codes "logout_uri") d) ≡ false

  client_kept : (parties : List Data) (i : ℕ) (d : Data) → keys.client_row v parties i d ≡ [] → ClientKept parties d
  client_kept parties i d h =
      let l : ClientLists v parties i d = client_lists v parties i d h in
      record { id = kept_text (row.Client i) d (codes "id") (text.Name ClientId 1 64) l.id; logout = unmet _ (no.WrongKind (path_text (row.Client i) (codes "logout_uri"))) l.logout_fits }

  clients_kept : (parties rows : List Data) → each (keys.client_row v parties) rows ≡ [] → AllByRecursion (ClientKept parties) rows
  clients_kept parties rows h =
      all_rows (ClientKept parties) 0 rows
      (all_weaker (λ i d. keys.client_row v parties i d ≡ []) (λ i d. ClientKept parties d) 0 rows (λ i d le e. client_kept parties i d e) (each_nil (keys.client_row v parties) 0 rows h))

  abbrev place_from : List ℕ → ℕ → List Data → Option ℕ
  place_from id n rows = position_from (λ (k : Client). bytes_eq k.id id) n (map (client_of_row v) rows)

  -- the client at a place is that of the first row of this id
  record Found (parties : List Data) (id : List ℕ) (rows : List Data) (n i : ℕ) : Type 0 where
    pub past : ℕ
    pub place : i ≡ n + past
    pub row : Data
    pub kept : ClientKept parties row
    pub named : passes (bytes_eq id) (text_at (codes "id") row) ≡ true
    pub there : keys.client_with id rows ≡ Some row
    pub client : slice_get (map (client_of_row v) rows) past ≡ Some (client_of_row v row)

  with_id : (parties : List Data) (id : List ℕ) (d : Data) (t : Bool) → ClientKept parties d → bytes_eq (text_or (codes "id") [] d) id ≡ t → passes (bytes_eq id) (text_at (codes "id") d) ≡ t
  with_id parties id d t k h =
      ap (passes (bytes_eq id)) k.id.there ∙ same_turned k.id.value id t (ap (λ u. bytes_eq u id) (sym (or_else (text_at (codes "id") d) k.id.value [] k.id.there)) ∙ h)

  found_here : (parties : List Data) (id : List ℕ) (d : Data) (ds : List Data) (n i : ℕ) → ClientKept parties d → passes (bytes_eq id) (text_at (codes "id") d) ≡ true → n ≡ i → Found parties id (d ∷ ds) n i
  found_here parties id d ds n i k h same = record { past = 0; place = omega (arith, same); row = d; kept = k; named = h; there = rw h; client = refl }

  found_later : (parties : List Data) (id : List ℕ) (d : Data) (ds : List Data) (n i : ℕ) → passes (bytes_eq id) (text_at (codes "id") d) ≡ false → Found parties id ds (n + 1) i → Found parties id (d ∷ ds) n i
  found_later parties id d ds n i h f = record { past = suc f.past; place = omega (arith, f.place); row = f.row; kept = f.kept; named = f.named; there = rw h f.there; client = f.client }

  found_at : (parties : List Data) (id : List ℕ) (d : Data) (ds : List Data) (n i : ℕ) (t : Bool) → bytes_eq (text_or (codes "id") [] d) id ≡ t → ClientKept parties d
      → cond t (Some n) (place_from id (n + 1) ds) ≡ Some i → (place_from id (n + 1) ds ≡ Some i → Found parties id ds (n + 1) i) → Found parties id (d ∷ ds) n i
  found_at parties id d ds n i true is k h later = found_here parties id d ds n i k (with_id parties id d true k is) (cc)
  found_at parties id d ds n i false is k h later = found_later parties id d ds n i (with_id parties id d false k is) (later h)

  none_some : {B : Type 0} (i : ℕ) → None ≡ Some i → B
  none_some i h = absurd (cc)

  found : (parties : List Data) (id : List ℕ) (rows : List Data) (n i : ℕ) → AllByRecursion (ClientKept parties) rows → place_from id n rows ≡ Some i → Found parties id rows n i
  found parties id [] n i ids h = none_some i h
  found parties id (d ∷ ds) n i ids h = found_at parties id d ds n i (bytes_eq (text_or (codes "id") [] d) id) refl ids.0 h (found parties id ds (n + 1) i ids.1)

  known_place : (o : Option ℕ) (m : ℕ) → unwrap_or o m < m → o ≡ Some (unwrap_or o m)
  known_place None m less = absurd (omega (arith, less))
  known_place (Some i) m less = refl

  -- the client of a party is the record of the row that its own row names
  record Named (parties clients : List Data) (d : Data) (place : ℕ) : Type 0 where
    pub row : Data
    pub kept : ClientKept parties row
    pub uses : keys.uses kept.id.value d ≡ true
    pub there : keys.client_of clients d ≡ Some row
    pub client : slice_get (map (client_of_row v) clients) place ≡ Some (client_of_row v row)

  named_by : (parties clients : List Data) (d : Data) (i : ℕ) (k : KeptText text.Any (codes "client") d) → Found parties (text_or (codes "client") [] d) clients 0 i → Named parties clients d i
  named_by parties clients d i k f =
      let same : text_or (codes "client") [] d ≡ k.value = or_else (text_at (codes "client") d) k.value [] k.there in
      let place : f.past ≡ i = omega (arith, f.place) in
      let id : bytes_eq k.value f.kept.id.value ≡ true = ap (λ t. bytes_eq t f.kept.id.value) (sym same) ∙ ap (passes (bytes_eq (text_or (codes "client") [] d))) (sym f.kept.id.there) ∙ f.named in
      record {
        row = f.row;
        kept = f.kept;
        uses = ap (passes (bytes_eq f.kept.id.value)) k.there ∙ same_turned k.value f.kept.id.value true id;
        there = ap (keys.client_named clients) k.there ∙ ap (λ t. keys.client_with t clients) (sym same) ∙ f.there;
        client = ap (slice_get (map (client_of_row v) clients)) (sym place) ∙ f.client;
      }

  -- ---- its logout URI

  -- what no row of the list passes this row does not pass
  abbrev Within : List Data → Data → Type 0
  Within rows d = (f : Data → Bool) → list_any f rows ≡ false → f d ≡ false

  all_within : (rows : List Data) → AllByRecursion (Within rows) rows
  all_within [] = tt
  all_within (d ∷ ds) = (
    λ f h. (either_false (f d) (list_any f ds) h).0,
    rows_weaker (Within ds) (Within (d ∷ ds)) ds (λ x w f h. w f (either_false (f d) (list_any f ds) h).1) (all_within ds),
  )

  used_fits : (a b : Bool) → a ≡ true → (a && b) ≡ false → b ≡ false
  used_fits a b is h = ap (λ t. t && b) (sym is) ∙ h

  logout_at : (parties : List Data) (d : Data) (id : List ℕ) (p : Party) (o : Option WebUrl) → Within parties d → url_at (codes "redirect_uri") d ≡ Some p.redirect_url → keys.uses id d ≡ true → keys.misplaced parties (Some id) o ≡ false → IfSome o (IsLogoutOf p)
  logout_at parties d id p None w url uses h = tt
  logout_at parties d id p (Some u) w url uses h =
      let here : (bytes_eq u.path (codes "/leave") || keys.is_elsewhere u (url_at (codes "redirect_uri") d)) ≡ false = used_fits (keys.uses id d) _ uses (w (keys.is_apart id u) h) in
      let both : (bytes_eq u.path (codes "/leave") ≡ false) × (keys.is_elsewhere u (url_at (codes "redirect_uri") d) ≡ false) = either_false (bytes_eq u.path (codes "/leave")) _ here in
      record { server = meant (is_same_server u p.redirect_url) (ap (keys.is_elsewhere u) (sym url) ∙ both.1); path = both.0 }

  -- ---- its response type

  type_at : (ts : List (List ℕ)) (n : ℕ) → n < 6 → keys.has_type n ts ≡ true → slice_get (types_of ts) n ≡ Some true
  type_at ts zero less h = ap (λ b. Some b) h
  type_at ts (suc zero) less h = ap (λ b. Some b) h
  type_at ts (suc (suc zero)) less h = ap (λ b. Some b) h
  type_at ts (suc (suc (suc zero))) less h = ap (λ b. Some b) h
  type_at ts (suc (suc (suc (suc zero)))) less h = ap (λ b. Some b) h
  type_at ts (suc (suc (suc (suc (suc zero))))) less h = ap (λ b. Some b) h
  type_at ts (suc (suc (suc (suc (suc (suc n)))))) less h = absurd (omega (arith, less))

  default_type : is_response_type (codes "code") ≡ true
  unfolding spellings
  default_type = refl

  not_lacking : (client : Data) (t : List ℕ) (n : ℕ) → type_number t ≡ Some n → lacks_type (Some client) t ≡ false → keys.has_type n (keys.response_texts client) ≡ true
  unfolding lacks_type
  not_lacking client t n is h = meant (keys.has_type n (keys.response_texts client)) (ap (keys.lacks_number (keys.response_texts client)) (sym is) ∙ h)

  -- ---- both

  abbrev type_text : Data → List ℕ
  type_text d = text_or (codes "response_type") (codes "code") d

  fits_row : (parties : List Data) (known : List Client) (clients : List Data) (i : ℕ) (d : Data) (place : ℕ) → Within parties d → PartyLists clients i d → (n : Named parties clients d place) → FitsClient (party_of v known d) (client_of_row v n.row)
  unfolding party_of
  fits_row parties known clients i d place within l named =
      let r = row.Party i in
      let client : Data = named.row in
      let u : UrlAt (codes "redirect_uri") d = url_found r d (codes "redirect_uri") no_url l.redirect in
      let w : Directs (keys.client_of clients d) u.text u.url =
      directs_at (keys.client_of clients d) (text_at (codes "redirect_uri") d) (url_at (codes "redirect_uri") d) u.text u.url u.text_there u.url_there (unmet _ (no.BadUrl (path_text r (codes "redirect_uri"))) l.directs) in
      let of : keys.is_not_of (Some client) u.text u.url ≡ false = ap (λ o. keys.is_not_of o u.text u.url) (sym named.there) ∙ w.known in
      let both : (not (has_text u.text (texts_at (codes "redirect_uris") client)) ≡ false) × (keys.has_path u.url.path (url_at (codes "logout_uri") client) ≡ false) =
      either_false (not (has_text u.text (texts_at (codes "redirect_uris") client))) (keys.has_path u.url.path (url_at (codes "logout_uri") client)) of in
      let kept : is_response_type (type_text d) ≡ true = optional_text_kept r d (codes "response_type") (codes "code") text.ResponseType default_type l.type in
      let n : ℕ = unwrap_or (type_number (type_text d)) 0 in
      let number : type_number (type_text d) ≡ Some n = some_of (type_number (type_text d)) 0 kept in
      let lacks : lacks_type (Some client) (type_text d) ≡ false = ap (λ o. lacks_type o (type_text d)) (sym named.there) ∙ unmet _ (no.WrongKind (path_text r (codes "response_type"))) l.has_type in
      let url : url_at (codes "redirect_uri") d ≡ Some (unwrap_or (url_at (codes "redirect_uri") d) no_url) = u.url_there ∙ ap (λ o. Some (unwrap_or o no_url)) (sym u.url_there) in
      let misplaced : keys.misplaced parties (Some named.kept.id.value) (url_at (codes "logout_uri") client) ≡ false = ap (λ o. keys.misplaced parties o (url_at (codes "logout_uri") client)) (sym named.kept.id.there) ∙ named.kept.logout in
      record {
        redirect = ap (λ t. has_text t (texts_at (codes "redirect_uris") client)) (or_else (text_at (codes "redirect_uri") d) u.text [] u.text_there) ∙ meant (has_text u.text (texts_at (codes "redirect_uris") client)) both.0;
        logout = ap (λ (o : Option WebUrl). keys.has_path (unwrap_or o no_url).path (url_at (codes "logout_uri") client)) u.url_there ∙ both.1;
        logout_of = logout_at parties d named.kept.id.value (party_of v known d) (url_at (codes "logout_uri") client) within url named.uses misplaced;
        number = n;
        types = ap types_of_number number;
        has_type = type_at (keys.response_texts client) n (number_below (type_text d) n number) (not_lacking client (type_text d) n number lacks);
      }

  fits_at : (p : Party) (o : Option Client) (k : Client) → o ≡ Some k → FitsClient p k → IfSome o (FitsClient p)
  fits_at p o k is h = subst (λ q. IfSome q (FitsClient p)) (sym is) h

  party_fits : (host : Bool) (parties clients : List Data) (i : ℕ) (d : Data) → Within parties d → AllByRecursion (ClientKept parties) clients → keys.party_row v host clients i d ≡ [] → (party_of v (map (client_of_row v) clients) d).client < length (map (client_of_row v) clients)
      → IfSome (slice_get (map (client_of_row v) clients) (party_of v (map (client_of_row v) clients) d).client) (FitsClient (party_of v (map (client_of_row v) clients) d))
  unfolding party_of
  party_fits host parties clients i d within ids h less =
      let known : List Client = map (client_of_row v) clients in
      let l : PartyLists clients i d = party_lists v host clients i d h in
      let k : KeptText text.Any (codes "client") d = kept_text (row.Party i) d (codes "client") text.Any l.client in
      let id : List ℕ = text_or (codes "client") [] d in
      let place : ℕ = unwrap_or (client_place id known) (length known) in
      let n : Named parties clients d place = named_by parties clients d place k (found parties id clients 0 place ids (known_place (client_place id known) (length known) less)) in
      fits_at (party_of v known d) (slice_get known place) (client_of_row v n.row) n.client (fits_row parties known clients i d place within l n)

  fit_from : (host : Bool) (parties clients : List Data) (n : ℕ) (rows : List Data) → AllByRecursion (Within parties) rows → AllByRecursion (ClientKept parties) clients → AllFrom (λ i d. keys.party_row v host clients i d ≡ []) n rows
      → AllByRecursion (λ (p : Party). p.client < length (map (client_of_row v) clients)) (map (party_of v (map (client_of_row v) clients)) rows)
      → AllByRecursion (λ (p : Party). IfSome (slice_get (map (client_of_row v) clients) p.client) (FitsClient p)) (map (party_of v (map (client_of_row v) clients)) rows)
  fit_from host parties clients n [] within ids h known = tt
  fit_from host parties clients n (d ∷ ds) within ids h known = (party_fits host parties clients n d within.0 ids h.0 known.0, fit_from host parties clients (n + 1) ds within.1 ids h.1 known.1)

  pub parties_fit : (host : Bool) (parties clients : List Data) → each (keys.client_row v parties) clients ≡ [] → each (keys.party_row v host clients) parties ≡ []
      → AllByRecursion (λ (p : Party). p.client < length (map (client_of_row v) clients)) (map (party_of v (map (client_of_row v) clients)) parties)
      → AllByRecursion (λ (p : Party). IfSome (slice_get (map (client_of_row v) clients) p.client) (FitsClient p)) (map (party_of v (map (client_of_row v) clients)) parties)
  parties_fit host parties clients h g known = fit_from host parties clients 0 parties (all_within parties) (clients_kept parties clients h) (each_nil (keys.party_row v host clients) 0 parties g) known
