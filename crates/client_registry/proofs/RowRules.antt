-- The records of rows that are guilty of nothing keep the rules of their rows.
use Rattle.std.proofs.Common.{◌≡◌, ◌≤◌, ◌==◌, ◌&&◌, ℕ, Bool, true, false, cond, List, [], ◌∷◌, ◌++◌, length, map, replicate, nat_le, nat_lt, not, codes, Option, Some, None, is_some, option_and_then, unwrap_or, ◌||◌, ◌⊎◌, inl, inr, refl, sym, ap, ◌∙◌, arith, true≢false}
use Rattle.std.specs.Prelude.{IfSome, is_none}
use Rattle.std.specs.List.{AllByRecursion, list_any}
use Rattle.std.proofs.lemmas.Bool.{ltb-false}
use Rattle.std.proofs.lemmas.Bool.Decides.{nat_tests}
use Rattle.base64.specs.GeneralPurpose.{IsBytes}
use Rattle.toml.specs.Data.{Data, get, as_str}
use Rattle.configuration_rows.specs.Values.{as_natural}
use Rattle.configuration_rows.specs.Values.{text_at, natural_at, hex_at, texts_at, url_at, rows_at, table_at}
use Rattle.registered_url.specs.Rule.{url_of}
use Rattle.configuration_rows.specs.declared.no.RegNo.{RegNo}
use Rattle.configuration_rows.specs.declared.no.RegNo.TheVariants as no
use Rattle.configuration_rows.specs.declared.row.Row.{Row}
use Rattle.configuration_rows.specs.declared.row.Row.TheVariants as row
use Rattle.configuration_rows.specs.declared.kind.Kind.TheVariants as kind
use Rattle.configuration_rows.specs.declared.kind.TextRule.TheVariants as text
use Rattle.configuration_rows.specs.declared.kind.Alphabet.TheVariants.{UserId, ClientId, PartyName, Visible}
use Rattle.configuration_rows.specs.declared.version.Version.{Version}
use Rattle.configuration_rows.specs.declared.version.Version.TheVariants as version
use Rattle.configuration_rows.specs.Versions.{version_in}
use Rattle.configuration_rows.specs.Refusals.{note_if, each}
use Rattle.configuration_rows.specs.Paths.{path_text}
use Rattle.configuration_rows.specs.Kinds.{is_within, is_name, are_urls}
use Rattle.sso_base.specs.Texts.{has_text}
use Rattle.oidc_words.specs.Prompts.{is_prompt}
use Rattle.registered_url.specs.declared.web_url.WebUrl.{WebUrl}
use Rattle.configuration_rows.specs.Rows as keys
use Rattle.configuration_rows.specs.Rows.{rows_refusals}
use Rattle.client_registry.specs.declared.records.User.{User}
use Rattle.client_registry.specs.declared.records.Client.{Client}
use Rattle.client_registry.specs.declared.records.Party.{Party}
use Rattle.client_registry.specs.Records.{no_url, rounds_of, user_of, old_secret_of, seals_old_of, client_of_row, party_of, party_settings_of, urls_of}
use Rattle.client_registry.specs.Rules as rule
use Rattle.client_registry.specs.Registered.{IsUser, IsSecret, IsClient, IsParty, KeepsPartySettings, is_url_or_none, is_prompt_or_none, is_age_or_none}
use Rattle.client_registry.proofs.Guiltless.{front_nil, back_nil, unmet, either_false, each_nil, all_weaker, all_rows}
use Rattle.client_registry.proofs.SpelledBytes.{hex_is_bytes, proof_is_bytes}
use Rattle.client_registry.proofs.RowFacts.{Passing, Kept, KeptText, kept_text, KeptUrl, UrlAt, url_found, optional_text_kept, text_kept, hex_kept, number_kept, number_in, urls_kept, url_kept, url_there, optional_at, workers_kept}

second_true : (a b : Bool) → (a && b) ≡ true → b ≡ true
second_true true b h = h
second_true false b h = absurd (true≢false (sym h))

-- ---- users

rounds_at : (b : Bool) (n : ℕ) → nat_le n 1000000 ≡ b → is_within 1 1000000 n ≡ true → is_within 1 1000000 (cond b n 0) ≡ true
rounds_at true n is h = h
rounds_at false n is h = absurd (true≢false (sym (second_true (nat_le 1 n) (nat_le n 1000000) h) ∙ is))

rounds_within : (o : Option ℕ) → Passing (is_within 1 1000000) o → is_within 1 1000000 (rounds_of o) ≡ true
rounds_within o p = ap (λ q. is_within 1 1000000 (rounds_of q)) p.there ∙ rounds_at (nat_le p.value 1000000) p.value refl p.passed

proof_at : (b : Bool) (bytes : List ℕ) → (length bytes == 32) ≡ b → length (cond b bytes (replicate 32 0)) ≡ 32
proof_at true bytes is = grind (arith, nat_tests, is)
proof_at false bytes is = refl

record UserRow (u : User) : Type 0 where
  pub id : is_name UserId 1 64 u.id ≡ true
  pub salt : is_within 1 64 (length u.salt) ≡ true
  pub salt_bytes : IsBytes u.salt
  pub rounds : is_within 1 1000000 u.rounds ≡ true
  pub proof : length u.proof ≡ 32
  pub proof_bytes : IsBytes u.proof

user_row : (i : ℕ) (d : Data) → keys.user_row i d ≡ [] → UserRow (user_of d)
user_row i d h =
    let a : List RegNo = keys.required (row.User i) d (codes "id") (kind.Text (text.Name UserId 1 64)) in
    let b : List RegNo = keys.required (row.User i) d (codes "salt") (kind.Text (text.Hex 1 64)) in
    let c : List RegNo = keys.required (row.User i) d (codes "rounds") (kind.Number 1 1000000) in
    let e : List RegNo = keys.required (row.User i) d (codes "proof") (kind.Text (text.Hex 32 32)) in
    let f : List RegNo = keys.optional (row.User i) d (codes "claims") kind.Claims in
    let abc : (a ++ b) ++ c ≡ [] = front_nil ((a ++ b) ++ c) e (front_nil (((a ++ b) ++ c) ++ e) f h) in
    let ab : a ++ b ≡ [] = front_nil (a ++ b) c abc in
    record {
      id = text_kept (row.User i) d (codes "id") (text.Name UserId 1 64) (front_nil a b ab);
      salt = hex_kept (row.User i) d (codes "salt") 1 64 (back_nil a b ab);
      salt_bytes = hex_is_bytes (codes "salt") d;
      rounds = rounds_within (natural_at (codes "rounds") d) (number_kept (row.User i) d (codes "rounds") 1 1000000 (back_nil (a ++ b) c abc));
      proof = proof_at (length (hex_at (codes "proof") d) == 32) (hex_at (codes "proof") d) refl;
      proof_bytes = proof_is_bytes (hex_at (codes "proof") d) (hex_is_bytes (codes "proof") d);
    }

-- ---- clients

-- a text that may be a secret, whatever its length below the limit
abbrev IsNamed : List ℕ → Type 0
IsNamed t = is_name Visible 0 128 t ≡ true

record ClientRow (k : Client) : Type 0 where
  pub id : is_name ClientId 1 64 k.id ≡ true
  pub secret : is_name Visible 0 128 k.secret ≡ true
  pub old_secret : IfSome k.old_secret IsNamed
  pub seals : (k.seals_old && is_none k.old_secret) ≡ false
  pub redirects : is_within 1 16 (length k.redirects) ≡ true
  pub types : length k.types ≡ 6
  pub urls : are_urls k.redirects ≡ true
  pub kept : k.redirect_urls ≡ urls_of k.redirects
  pub logout : is_url_or_none k.logout ≡ true
  pub logout_kept : k.logout_url ≡ option_and_then url_of k.logout

logout_at : (o : Option Data) → (o ≡ None) ⊎ Kept kind.Url o → is_url_or_none (option_and_then as_str o) ≡ true
logout_at o (inl none) = ap (λ q. is_url_or_none (option_and_then as_str q)) none
logout_at o (inr k) =
    let u : KeptUrl (as_str k.value) = url_there (as_str k.value) k.kept in
    ap (λ q. is_url_or_none (option_and_then as_str q)) k.there ∙ ap is_url_or_none u.there ∙ u.url

-- what the row of a client says, where nothing is noted of it
pub record ClientLists (v : Version) (parties : List Data) (i : ℕ) (d : Data) : Type 0 where
  pub id : keys.required (row.Client i) d (codes "id") (kind.Text (text.Name ClientId 1 64)) ≡ []
  pub secret : keys.required (row.Client i) d (codes "secret") (kind.Text (text.Name Visible 0 128)) ≡ []
  pub old_secret : keys.old_secret_keys v (row.Client i) d ≡ []
  pub redirects : keys.required (row.Client i) d (codes "redirect_uris") kind.Urls ≡ []
  pub logout : keys.optional (row.Client i) d (codes "logout_uri") kind.Url ≡ []
  pub logout_fits : keys.logout_rule parties (row.Client i) d ≡ []

pub client_lists : (v : Version) (parties : List Data) (i : ℕ) (d : Data) → keys.client_row v parties i d ≡ [] → ClientLists v parties i d
client_lists v parties i d h =
    let r = row.Client i in
    let a : List RegNo = keys.required r d (codes "id") (kind.Text (text.Name ClientId 1 64)) in
    let b : List RegNo = keys.required r d (codes "secret") (kind.Text (text.Name Visible 0 128)) in
    let o : List RegNo = keys.old_secret_keys v r d in
    let c : List RegNo = keys.required r d (codes "redirect_uris") kind.Urls in
    let e : List RegNo = keys.optional r d (codes "response_types") kind.ResponseTypes in
    let s : List RegNo = keys.optional r d (codes "subject") (kind.Text text.Subject) in
    let t : List RegNo = keys.optional r d (codes "consent") (kind.Text text.Consent) in
    let l : List RegNo = keys.optional r d (codes "logout_uri") kind.Url in
    let m : List RegNo = keys.logout_rule parties r d in
    let n : List RegNo = keys.optional r d (codes "logout_session") kind.Flag in
    let both : ((((a ++ b) ++ o) ++ c) ++ e) ++ ((((s ++ t) ++ l) ++ m) ++ n) ≡ [] = front_nil (((((a ++ b) ++ o) ++ c) ++ e) ++ ((((s ++ t) ++ l) ++ m) ++ n)) (keys.title_key v r d) h in
    let names : (((a ++ b) ++ o) ++ c) ++ e ≡ [] = front_nil ((((a ++ b) ++ o) ++ c) ++ e) ((((s ++ t) ++ l) ++ m) ++ n) both in
    let settings : (((s ++ t) ++ l) ++ m) ++ n ≡ [] = back_nil ((((a ++ b) ++ o) ++ c) ++ e) ((((s ++ t) ++ l) ++ m) ++ n) both in
    let aboc : ((a ++ b) ++ o) ++ c ≡ [] = front_nil (((a ++ b) ++ o) ++ c) e names in
    let abo : (a ++ b) ++ o ≡ [] = front_nil ((a ++ b) ++ o) c aboc in
    let ab : a ++ b ≡ [] = front_nil (a ++ b) o abo in
    let stlm : ((s ++ t) ++ l) ++ m ≡ [] = front_nil (((s ++ t) ++ l) ++ m) n settings in
    record {
      id = front_nil a b ab;
      secret = back_nil a b ab;
      old_secret = back_nil (a ++ b) o abo;
      redirects = back_nil ((a ++ b) ++ o) c aboc;
      logout = back_nil (s ++ t) l (front_nil ((s ++ t) ++ l) m stlm);
      logout_fits = back_nil ((s ++ t) ++ l) m stlm;
    }

-- the old secret, in the second version
record OldKept (v : Version) (d : Data) : Type 0 where
  pub named : IfSome (old_secret_of v d) IsNamed
  pub seals : (seals_old_of v d && is_none (old_secret_of v d)) ≡ false

named_at : (o : Option (List ℕ)) → IsNamed (unwrap_or o []) → IfSome o IsNamed
named_at None h = tt
named_at (Some t) h = h

old_at : (b : Bool) (i : ℕ) (d : Data) → keys.old_secret_rule b (row.Client i) d ≡ [] → IfSome (text_at (codes "old_secret") d) IsNamed × ((b && is_none (text_at (codes "old_secret") d)) ≡ false)
old_at true i d h =
    let k : KeptText (text.Name Visible 0 128) (codes "old_secret") d = kept_text (row.Client i) d (codes "old_secret") (text.Name Visible 0 128) h in
    (named_at (text_at (codes "old_secret") d) (text_kept (row.Client i) d (codes "old_secret") (text.Name Visible 0 128) h), ap is_none k.there)
old_at false i d h = (named_at (text_at (codes "old_secret") d) (optional_text_kept (row.Client i) d (codes "old_secret") [] (text.Name Visible 0 128) refl h), refl)

old_kept : (v : Version) (i : ℕ) (d : Data) → keys.old_secret_keys v (row.Client i) d ≡ [] → OldKept v d
old_kept version.First i d h = record { named = tt; seals = refl }
old_kept version.Second i d h =
    let o = old_at (keys.seals_old d) i d (front_nil (keys.old_secret_rule (keys.seals_old d) (row.Client i) d) (keys.optional (row.Client i) d (codes "seals") (kind.Text text.Seals)) h) in
    record { named = o.0; seals = o.1 }

client_row : (v : Version) (parties : List Data) (i : ℕ) (d : Data) → keys.client_row v parties i d ≡ [] → ClientRow (client_of_row v d)
client_row v parties i d h =
    let r = row.Client i in
    let l : ClientLists v parties i d = client_lists v parties i d h in
    let o : OldKept v d = old_kept v i d l.old_secret in
    let uris : (is_within 1 16 (length (texts_at (codes "redirect_uris") d)) ≡ true) × (are_urls (texts_at (codes "redirect_uris") d) ≡ true) = urls_kept r d (codes "redirect_uris") l.redirects in
    record {
      id = text_kept r d (codes "id") (text.Name ClientId 1 64) l.id;
      secret = text_kept r d (codes "secret") (text.Name Visible 0 128) l.secret;
      old_secret = o.named;
      seals = o.seals;
      redirects = uris.0;
      types = refl;
      urls = uris.1;
      kept = refl;
      logout = logout_at (get (codes "logout_uri") d) (optional_at (path_text r (codes "logout_uri")) kind.Url (get (codes "logout_uri") d) l.logout);
      logout_kept = refl;
    }

-- ---- parties

-- a redirection URI that its rule allows
pub record Directs (client : Option Data) (t : List ℕ) (u : WebUrl) : Type 0 where
  pub names : keys.has_answer_name u ≡ false
  pub path : has_text u.path keys.own_paths ≡ false
  pub known : keys.is_not_of client t u ≡ false

directs : (client : Option Data) (t : List ℕ) (u : WebUrl) → keys.misdirects client (Some t) (Some u) ≡ false → Directs client t u
directs client t u h =
    let a : (keys.has_answer_name u ≡ false) × ((has_text u.path keys.own_paths || keys.is_not_of client t u) ≡ false) = either_false (keys.has_answer_name u) (has_text u.path keys.own_paths || keys.is_not_of client t u) h in
    let b : (has_text u.path keys.own_paths ≡ false) × (keys.is_not_of client t u ≡ false) = either_false (has_text u.path keys.own_paths) (keys.is_not_of client t u) a.1 in
    record { names = a.0; path = b.0; known = b.1 }

-- the same, from what stands at the key
pub directs_at : (client : Option Data) (o : Option (List ℕ)) (v : Option WebUrl) (t : List ℕ) (u : WebUrl) → o ≡ Some t → v ≡ Some u → keys.misdirects client o v ≡ false → Directs client t u
directs_at client o v t u text url h =
    directs client t u (ap (λ w. keys.misdirects client (Some t) w) (sym url) ∙ ap (λ q. keys.misdirects client q v) (sym text) ∙ h)

-- what the row of a party says, where nothing is noted of it
pub record PartyLists (clients : List Data) (i : ℕ) (d : Data) : Type 0 where
  pub name : keys.required (row.Party i) d (codes "name") (kind.Text (text.Name PartyName 1 16)) ≡ []
  pub client : keys.required (row.Party i) d (codes "client") (kind.Text text.Any) ≡ []
  pub redirect : keys.required (row.Party i) d (codes "redirect_uri") kind.Url ≡ []
  pub directs : keys.redirect_rule clients (row.Party i) d ≡ []
  pub listen : keys.required (row.Party i) d (codes "listen") (kind.Text (text.Name Visible 1 64)) ≡ []
  pub type : keys.optional (row.Party i) d (codes "response_type") (kind.Text text.ResponseType) ≡ []
  pub has_type : keys.type_rule clients (row.Party i) d ≡ []
  pub scope : keys.optional (row.Party i) d (codes "scope") (kind.Text text.Scope) ≡ []
  pub prompt : keys.optional (row.Party i) d (codes "prompt") (kind.Text text.Prompt) ≡ []
  pub age : keys.optional (row.Party i) d (codes "max_age") (kind.Number 0 999999999) ≡ []

pub party_lists : (v : Version) (host : Bool) (clients : List Data) (i : ℕ) (d : Data) → keys.party_row v host clients i d ≡ [] → PartyLists clients i d
party_lists v host clients i d h =
    let r = row.Party i in
    let a : List RegNo = keys.required r d (codes "name") (kind.Text (text.Name PartyName 1 16)) in
    let b : List RegNo = keys.required r d (codes "client") (kind.Text text.Any) in
    let c : List RegNo = keys.required r d (codes "redirect_uri") kind.Url in
    let e : List RegNo = keys.redirect_rule clients r d in
    let f : List RegNo = keys.required r d (codes "listen") (kind.Text (text.Name Visible 1 64)) in
    let t : List RegNo = keys.optional r d (codes "response_type") (kind.Text text.ResponseType) in
    let l : List RegNo = keys.type_rule clients r d in
    let s : List RegNo = keys.optional r d (codes "scope") (kind.Text text.Scope) in
    let m : List RegNo = keys.optional r d (codes "prompt") (kind.Text text.Prompt) in
    let n : List RegNo = keys.optional r d (codes "max_age") (kind.Number 0 999999999) in
    let settings : List RegNo = keys.party_settings r d in
    let rest : ((((a ++ b) ++ c) ++ e) ++ f) ++ ((((t ++ l) ++ s) ++ m) ++ n) ≡ [] = front_nil (((((a ++ b) ++ c) ++ e) ++ f) ++ ((((t ++ l) ++ s) ++ m) ++ n)) settings (front_nil ((((((a ++ b) ++ c) ++ e) ++ f) ++ ((((t ++ l) ++ s) ++ m) ++ n)) ++ settings) (keys.party_keys v host r d) h) in
    let names : (((a ++ b) ++ c) ++ e) ++ f ≡ [] = front_nil ((((a ++ b) ++ c) ++ e) ++ f) ((((t ++ l) ++ s) ++ m) ++ n) rest in
    let requests : (((t ++ l) ++ s) ++ m) ++ n ≡ [] = back_nil ((((a ++ b) ++ c) ++ e) ++ f) ((((t ++ l) ++ s) ++ m) ++ n) rest in
    let abce : ((a ++ b) ++ c) ++ e ≡ [] = front_nil (((a ++ b) ++ c) ++ e) f names in
    let abc : (a ++ b) ++ c ≡ [] = front_nil ((a ++ b) ++ c) e abce in
    let tlsm : ((t ++ l) ++ s) ++ m ≡ [] = front_nil (((t ++ l) ++ s) ++ m) n requests in
    let tls : (t ++ l) ++ s ≡ [] = front_nil ((t ++ l) ++ s) m tlsm in
    let tl : t ++ l ≡ [] = front_nil (t ++ l) s tls in
    record {
      name = front_nil a b (front_nil (a ++ b) c abc);
      client = back_nil a b (front_nil (a ++ b) c abc);
      redirect = back_nil (a ++ b) c abc;
      directs = back_nil ((a ++ b) ++ c) e abce;
      listen = back_nil (((a ++ b) ++ c) ++ e) f names;
      type = front_nil t l tl;
      has_type = back_nil t l tl;
      scope = back_nil (t ++ l) s tls;
      prompt = back_nil ((t ++ l) ++ s) m tlsm;
      age = back_nil (((t ++ l) ++ s) ++ m) n requests;
    }

prompt_at : (o : Option (List ℕ)) → is_prompt (unwrap_or o (codes "login")) ≡ true → is_prompt_or_none o ≡ true
prompt_at None h = refl
prompt_at (Some t) h = h

age_at : (o : Option Data) → (o ≡ None) ⊎ Kept (kind.Number 0 999999999) o → is_age_or_none (option_and_then as_natural o) ≡ true
age_at o (inl none) = ap (λ q. is_age_or_none (option_and_then as_natural q)) none
age_at o (inr k) =
    let p : Passing (is_within 0 999999999) (as_natural k.value) = number_in 0 999999999 k.value k.kept in
    ap (λ q. is_age_or_none (option_and_then as_natural q)) k.there ∙ ap is_age_or_none p.there ∙ p.passed

-- the keys of the second version
abbrev party_front : List Data → ℕ → Data → List RegNo
party_front clients i d = keys.party_names clients (row.Party i) d ++ keys.party_request clients (row.Party i) d ++ keys.party_settings (row.Party i) d

party_keys_kept : (v : Version) (host : Bool) (clients : List Data) (i : ℕ) (d : Data) → keys.party_row v host clients i d ≡ [] → keys.party_keys v host (row.Party i) d ≡ []
party_keys_kept v host clients i d h = back_nil (party_front clients i d) (keys.party_keys v host (row.Party i) d) h

party_settings_kept : (v : Version) (host : Bool) (r : Row) (d : Data) → keys.party_keys v host r d ≡ [] → KeepsPartySettings (party_settings_of v d)
party_settings_kept version.First host r d h = record { workers = refl }
party_settings_kept version.Second host r d h = record { workers = workers_kept r d (back_nil (keys.https_rule host r d) (keys.workers_key r d) h) }

party_row : (v : Version) (host : Bool) (known : List Client) (clients : List Data) (i : ℕ) (d : Data) → keys.party_row v host clients i d ≡ [] → IsParty (party_of v known d)
unfolding party_of
party_row v host known clients i d h =
    let r = row.Party i in
    let l : PartyLists clients i d = party_lists v host clients i d h in
    let u : UrlAt (codes "redirect_uri") d = url_found r d (codes "redirect_uri") no_url l.redirect in
    let w : Directs (keys.client_of clients d) u.text u.url =
    directs_at (keys.client_of clients d) (text_at (codes "redirect_uri") d) (url_at (codes "redirect_uri") d) u.text u.url u.text_there u.url_there (unmet _ (no.BadUrl (path_text r (codes "redirect_uri"))) l.directs) in
    record {
      name = text_kept r d (codes "name") (text.Name PartyName 1 16) l.name;
      listen = text_kept r d (codes "listen") (text.Name Visible 1 64) l.listen;
      redirect = url_kept r d (codes "redirect_uri") no_url l.redirect;
      path = ap (λ (o : Option WebUrl). has_text (unwrap_or o no_url).path keys.own_paths) u.url_there ∙ w.path;
      names = ap (λ (o : Option WebUrl). keys.has_answer_name (unwrap_or o no_url)) u.url_there ∙ w.names;
      scope = optional_text_kept r d (codes "scope") (codes "openid") text.Scope refl l.scope;
      prompt = prompt_at (text_at (codes "prompt") d) (optional_text_kept r d (codes "prompt") (codes "login") text.Prompt refl l.prompt);
      age = age_at (get (codes "max_age") d) (optional_at (path_text r (codes "max_age")) (kind.Number 0 999999999) (get (codes "max_age") d) l.age);
      settings = party_settings_kept v host r d (party_keys_kept v host clients i d h);
    }

-- ---- all rows

mapped : {A B : Type 0} (P : B → Type 0) (f : A → B) (xs : List A) → AllByRecursion (λ x. P (f x)) xs → AllByRecursion P (map f xs)
mapped P f [] h = tt
mapped P f (x ∷ xs) h = (h.0, mapped P f xs h.1)

joined : {A : Type 0} (P Q R : A → Type 0) (xs : List A) → ((x : A) → P x → Q x → R x) → AllByRecursion P xs → AllByRecursion Q xs → AllByRecursion R xs
joined P Q R [] f p q = tt
joined P Q R (x ∷ xs) f p q = (f x p.0 q.0, joined P Q R xs f p.1 q.1)

rows_keep : {B : Type 0} (f : ℕ → Data → List RegNo) (g : Data → B) (P : B → Type 0) (rows : List Data) → ((i : ℕ) (d : Data) → f i d ≡ [] → P (g d)) → each f rows ≡ [] → AllByRecursion P (map g rows)
rows_keep f g P rows keep h =
    mapped P g rows (all_rows (λ d. P (g d)) 0 rows (all_weaker (λ i d. f i d ≡ []) (λ i d. P (g d)) 0 rows (λ i d le e. keep i d e) (each_nil f 0 rows h)))

records_keep : {A : Type 0} (f : ℕ → A → List RegNo) (P : A → Type 0) (xs : List A) → ((i : ℕ) (x : A) → f i x ≡ [] → P x) → each f xs ≡ [] → AllByRecursion P xs
records_keep f P xs keep h = all_rows P 0 xs (all_weaker (λ i x. f i x ≡ []) (λ i x. P x) 0 xs (λ i x le e. keep i x e) (each_nil f 0 xs h))

short_claims : (i : ℕ) (u : User) → rule.user_size i u ≡ [] → length u.claims ≤ 2048
short_claims i u h =
    let long : List RegNo = note_if (nat_lt 2048 (length u.claims)) (no.TooMany (codes "claims")) in
    ltb-false 2048 (length u.claims) (unmet (nat_lt 2048 (length u.claims)) (no.TooMany (codes "claims")) (back_nil (note_if (i == 512) (no.TooMany (codes "user"))) long h))

pub users_keep : (rows : List Data) → each keys.user_row rows ≡ [] → each rule.user_size (map user_of rows) ≡ [] → AllByRecursion IsUser (map user_of rows)
users_keep rows h c =
    joined UserRow (λ u. length u.claims ≤ 2048) IsUser (map user_of rows)
    (λ u r s. record { id = r.id; salt = r.salt; salt_bytes = r.salt_bytes; rounds = r.rounds; proof = r.proof; proof_bytes = r.proof_bytes; claims = s })
    (rows_keep keys.user_row user_of UserRow rows user_row h)
    (records_keep rule.user_size (λ u. length u.claims ≤ 2048) (map user_of rows) short_claims c)

abbrev IsLong : List ℕ → Type 0
IsLong t = 32 ≤ length t

long_text : (t : List ℕ) → rule.is_short t ≡ false → IsLong t
long_text t h = ltb-false (length t) 32 h

long_old : (o : Option (List ℕ)) → rule.is_short_old o ≡ false → IfSome o IsLong
long_old None h = tt
long_old (Some t) h = long_text t h

-- both secrets of a client are long
record LongSecrets (k : Client) : Type 0 where
  pub secret : IsLong k.secret
  pub old_secret : IfSome k.old_secret IsLong

long_secrets : (i : ℕ) (k : Client) → rule.short_secret i k ≡ [] → LongSecrets k
long_secrets i k h =
    let long = either_false (rule.is_short k.secret) (rule.is_short_old k.old_secret) (unmet _ (no.ShortSecret k.id) h) in
    record { secret = long_text k.secret long.0; old_secret = long_old k.old_secret long.1 }

-- a named text that is long is a secret
if_secret : (o : Option (List ℕ)) → IfSome o IsNamed → IfSome o IsLong → IfSome o IsSecret
if_secret None named long = tt
if_secret (Some t) named long = record { name = named; long = long }

record ClientRules (k : Client) : Type 0 where
  pub long : LongSecrets k
  pub one_host : (k.pairwise && rule.has_two_hosts k.redirect_urls) ≡ false

pub clients_keep : (v : Version) (parties rows : List Data) → each (keys.client_row v parties) rows ≡ [] → each rule.short_secret (map (client_of_row v) rows) ≡ [] → each rule.mixed_hosts (map (client_of_row v) rows) ≡ []
    → AllByRecursion IsClient (map (client_of_row v) rows)
clients_keep v parties rows h s m =
    joined ClientRow ClientRules IsClient (map (client_of_row v) rows)
    (λ k r q. record { id = r.id; secret = r.secret; long_secret = q.long.secret; old_secret = if_secret k.old_secret r.old_secret q.long.old_secret; seals = r.seals; redirects = r.redirects; types = r.types; urls = r.urls; kept = r.kept; logout = r.logout; logout_kept = r.logout_kept; one_host = q.one_host })
    (rows_keep (keys.client_row v parties) (client_of_row v) ClientRow rows (client_row v parties) h)
    (joined LongSecrets (λ k. (k.pairwise && rule.has_two_hosts k.redirect_urls) ≡ false) ClientRules (map (client_of_row v) rows) (λ k p q. record { long = p; one_host = q })
    (records_keep rule.short_secret LongSecrets (map (client_of_row v) rows) long_secrets s)
    (records_keep rule.mixed_hosts (λ k. (k.pairwise && rule.has_two_hosts k.redirect_urls) ≡ false) (map (client_of_row v) rows) (λ i k e. unmet (k.pairwise && rule.has_two_hosts k.redirect_urls) (no.MixedHosts k.id) e) m))

pub parties_keep : (v : Version) (host : Bool) (known : List Client) (clients rows : List Data) → each (keys.party_row v host clients) rows ≡ [] → AllByRecursion IsParty (map (party_of v known) rows)
parties_keep v host known clients rows h = rows_keep (keys.party_row v host clients) (party_of v known) IsParty rows (party_row v host known clients) h

-- ---- names of cookies that begin with `__Host-`

-- a URL is https, if such names are set
pub https_at : (host : Bool) (e : RegNo) (o : Option WebUrl) → note_if (host && keys.is_http o) e ≡ [] → is_some o ≡ true → (host && not (unwrap_or o no_url).secure) ≡ false
https_at host e None h there = absurd (true≢false (sym there))
https_at host e (Some u) h there = unmet (host && not u.secure) e h

https_kept : (v : Version) (t : Data) (known : List Client) (clients : List Data) (i : ℕ) (d : Data) → keys.party_row v (keys.host_cookies v t) clients i d ≡ [] → (keys.host_cookies v t && not (party_of v known d).redirect_url.secure) ≡ false
unfolding party_of
https_kept version.First t known clients i d h = refl
https_kept version.Second t known clients i d h =
    let host : Bool = keys.host_cookies version.Second t in
    let r = row.Party i in
    let l : PartyLists clients i d = party_lists version.Second host clients i d h in
    let u : UrlAt (codes "redirect_uri") d = url_found r d (codes "redirect_uri") no_url l.redirect in
    https_at host (no.BadUrl (path_text r (codes "redirect_uri"))) (url_at (codes "redirect_uri") d)
    (front_nil (keys.https_rule host r d) (keys.workers_key r d) (party_keys_kept version.Second host clients i d h))
    (ap is_some u.url_there)

neither : (a b : Bool) → a ≡ false → b ≡ false → (a || b) ≡ false
neither true b p q = absurd (true≢false p)
neither false b p q = q

none_http : (host : Bool) (ps : List Party) → AllByRecursion (λ (p : Party). (host && not p.redirect_url.secure) ≡ false) ps → (host && list_any (λ (p : Party). not p.redirect_url.secure) ps) ≡ false
none_http false ps h = refl
none_http true [] h = refl
none_http true (p ∷ ps) h = neither (not p.redirect_url.secure) (list_any (λ (q : Party). not q.redirect_url.secure) ps) h.0 (none_http true ps h.1)

pub parties_are_https : (v : Version) (t : Data) (known : List Client) (clients rows : List Data) → each (keys.party_row v (keys.host_cookies v t) clients) rows ≡ []
    → (keys.host_cookies v t && list_any (λ (p : Party). not p.redirect_url.secure) (map (party_of v known) rows)) ≡ false
parties_are_https v t known clients rows h =
    let host : Bool = keys.host_cookies v t in
    none_http host (map (party_of v known) rows)
    (rows_keep (keys.party_row v host clients) (party_of v known) (λ (p : Party). (host && not p.redirect_url.secure) ≡ false) rows (https_kept v t known clients) h)

-- what the rows say, where nothing is noted of them
pub record RowsKeep (root : Data) : Type 0 where
  pub provider : keys.provider_row (version_in root) (table_at (codes "provider") root) ≡ []
  pub users : each keys.user_row (rows_at (codes "user") root) ≡ []
  pub clients : each (keys.client_row (version_in root) (rows_at (codes "party") root)) (rows_at (codes "client") root) ≡ []
  pub parties : each (keys.party_row (version_in root) (keys.host_cookies_in root) (rows_at (codes "client") root)) (rows_at (codes "party") root) ≡ []

pub rows_keep_rules : (root : Data) → rows_refusals root ≡ [] → RowsKeep root
unfolding rows_refusals
rows_keep_rules root h =
    let p : List RegNo = keys.provider_row (version_in root) (table_at (codes "provider") root) in
    let u : List RegNo = keys.users_rows root in
    let k : List RegNo = keys.clients_rows root in
    let q : List RegNo = keys.parties_rows root in
    let puk : (p ++ u) ++ k ≡ [] = front_nil ((p ++ u) ++ k) q h in
    let pu : p ++ u ≡ [] = front_nil (p ++ u) k puk in
    record {
      provider = front_nil p u pu;
      users = back_nil (keys.array_rule (codes "user") root) _ (back_nil p u pu);
      clients = back_nil (keys.array_rule (codes "client") root) _ (back_nil (p ++ u) k puk);
      parties = back_nil (keys.array_rule (codes "party") root) _ (back_nil ((p ++ u) ++ k) q h);
    }
