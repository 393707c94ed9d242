-- A logout request that is carried arrives at the first party whose client has that logout URI, with its logout token.
use Rattle.std.proofs.Common.{◌≡◌, ◌<◌, ℕ, List, [], length, Bool, true, false, cond, codes, Option, Some, None, is_some, option_map, option_and_then, unwrap_or, slice_get, refl, sym, ap, ◌∙◌, subst, arith}
use Rattle.std.specs.Str.{IsUtf8, bytes_eq}
use Rattle.sso_base.specs.Words.{Text}
use Rattle.sso_base.specs.Texts.{is_given}
use Rattle.sso_base.specs.declared.http.Ask.{Ask}
use Rattle.sso_base.specs.declared.message.Message.{Message}
use Rattle.sso_base.proofs.RowLaws.{bytes_same}
use Rattle.sso_base.proofs.Utf8Bytes.{IsUtf8-are_ascii}
use Rattle.oidc_words.specs.Paths.{token_path, userinfo_path}
use Rattle.registered_url.specs.declared.web_url.WebUrl.{WebUrl}
use Rattle.registered_url.specs.Rule.{url_of}
use Rattle.client_registry.specs.declared.records.Client.{Client}
use Rattle.client_registry.specs.declared.records.Party.{Party}
use Rattle.client_registry.specs.Records.{no_url}
use Rattle.client_registry.specs.Configuration.{Configuration}
use Rattle.client_registry.specs.Numbers.{client_of, party_row, party_client, no_party, no_client}
use Rattle.client_registry.specs.Registered.{is_url_or_none, IsRegistry}
use Rattle.request_params.specs.Form.{form_text}
use Rattle.request_params.proofs.Forms.{form_pairs-form_text}
use Rattle.login_request.proofs.PartyRows.{KeepRules, client_is_known, rows_keep_rules}
use Rattle.op_exchange.specs.declared.reply.OpReply.TheVariants as op
use Rattle.op_issue.specs.LogoutMessages.{logout_pairs}
use Rattle.rp_exchange.specs.declared.ask.RpAsk.{RpAsk}
use Rattle.rp_exchange.specs.declared.ask.RpAsk.TheVariants as rp_ask
use Rattle.rp_request.specs.Opened.{logout_read_for}
use Rattle.rp_request.specs.Prepared.{only_value, logout_token_in, logout_path_of, logout_path, asked_at as rp_asked_at}
use Rattle.sso_places.specs.declared.types.WorldReply.TheVariants.{Provider as ProviderReply}
use Rattle.web_requests.specs.declared.sent.Sent.{Sent}
use Rattle.web_requests.specs.Carrying.{logs_out_at, party_of_logout, logout_ask, at_provider, at_party, delivered, carried}
use Rattle.web_requests.specs.Asked.{AsksParty}
use Rattle.web_requests.proofs.FoundPlaces.{found}
use Rattle.web_requests.proofs.RegistryRows.{some_row}
use Rattle.web_requests.proofs.Served.{party_reads, logout_asked}

-- ---- the party

record LogsOut (c : Configuration) (uri : Text) (n : ℕ) : Type 0 where
  low : n < length c.parties
  passes : logs_out_at uri (client_of c (party_row c n)) ≡ true

logs_out : (c : Configuration) (uri : Text) (n : ℕ) → party_of_logout c uri ≡ Some n → LogsOut c uri n
logs_out c uri n h =
    let f = found (λ (party : Party). logs_out_at uri (client_of c party)) c.parties no_party 0 n h in
    let same : f.place ≡ n = omega (arith, f.number) in
    record {
      low = subst (λ k. k < length c.parties) same f.low;
      passes = subst (λ k. logs_out_at uri (client_of c (unwrap_or (slice_get c.parties k) no_party)) ≡ true) same f.passes;
    }

-- ---- its client

text_is : (o : Option Text) (uri : Text) → is_given uri o ≡ true → o ≡ Some uri
text_is None uri h = absurd (cc)
text_is (Some t) uri h = ap Some (bytes_same t uri h)

some_url : (o : Option WebUrl) → is_some o ≡ true → o ≡ Some (unwrap_or o no_url)
some_url None h = absurd (cc)
some_url (Some u) h = refl

module _ (c : Configuration) (n : ℕ) (r : IsRegistry c) (uri : Text) (out : LogsOut c uri n) where
  abbrev client : Client
  client = party_client c n

  rules : KeepRules (party_row c n) client
  rules = rows_keep_rules c n r out.low

  client_there : client_of c (party_row c n) ≡ Some client
  client_there = some_row c.clients (party_row c n).client no_client (client_is_known c n r out.low)

  uri_there : client.logout ≡ Some uri
  uri_there = text_is client.logout uri (sym (ap (logs_out_at uri) client_there) ∙ out.passes)

  url_there : client.logout_url ≡ Some (unwrap_or client.logout_url no_url)
  url_there =
      some_url client.logout_url
      (ap is_some rules.client_rules.logout_kept ∙ ap (λ o. is_some (option_and_then url_of o)) uri_there ∙ sym (ap is_url_or_none uri_there) ∙ rules.client_rules.logout)

  path_there : logout_path c (party_row c n) ≡ Some (unwrap_or client.logout_url no_url).path
  path_there = ap (option_and_then logout_path_of) client_there ∙ ap (option_map (λ (url : WebUrl). url.path)) url_there

  abbrev message : Text → Message
  message token = record { to = uri; auth = None; body = Some (form_text (logout_pairs token)) }

  abbrev request : Text → Ask
  request token = logout_ask (unwrap_or client.logout_url no_url) (message token)

  token_there : (token : Text) → IsUtf8 token → logout_token_in (form_text (logout_pairs token)) ≡ token
  token_there token u =
      ap (λ pairs. unwrap_or (only_value (codes "logout_token") pairs) []) (form_pairs-form_text (logout_pairs token) ((IsUtf8-are_ascii (codes "logout_token") refl, u), tt))

  request_asked : (token : Text) → IsUtf8 token → (asked : RpAsk) → asked ≡ rp_ask.Logout (logout_read_for (party_client c n) token) → (o : Option Sent) → o ≡ Some (at_party c (message token) n) → AsksParty c 0 n o asked
  request_asked token u asked is o there = record {
    request = request token;
    is = there;
    read =
        party_reads c n r out.low (request token)
        ∙ ap (rp_asked_at (party_client c n) (party_row c n).types (request token)) (logout_asked c n r out.low (unwrap_or client.logout_url no_url).path path_there)
        ∙ ap (λ t. rp_ask.Logout (logout_read_for (party_client c n) t)) (token_there token u) ∙ sym is;
  }

  delivered_there : (token : Text) → party_of_logout c uri ≡ Some n → bytes_eq c.provider.token uri ≡ false → is_given uri c.provider.userinfo ≡ false → delivered c (message token) ≡ Some (at_party c (message token) n)
  delivered_there token found_it not_token not_info =
      let last : Option Sent = option_map (at_party c (message token)) (party_of_logout c uri) in
      let rest : Bool → Option Sent = λ b. cond b (Some (at_provider c userinfo_path (message token))) last in
      let D : Bool → Option Sent = λ b. cond b (Some (at_provider c token_path (message token))) (rest (is_given uri c.provider.userinfo)) in
      ap D not_token ∙ ap rest not_info ∙ ap (option_map (at_party c (message token))) found_it

pub logout_carried : (c : Configuration) (n : ℕ) (uri token : Text) (messages : List Message) (number : ℕ) → IsRegistry c → party_of_logout c uri ≡ Some n → bytes_eq c.provider.token uri ≡ false
    → is_given uri c.provider.userinfo ≡ false → IsUtf8 token → slice_get messages number ≡ Some (record { to = uri; auth = None; body = Some (form_text (logout_pairs token)) })
    → AsksParty c 0 n (carried c (ProviderReply (op.SignedOut messages)) number) (rp_ask.Logout (logout_read_for (party_client c n) token))
unfolding carried
logout_carried c n uri token messages number r found_it not_token not_info u there =
    let out = logs_out c uri n found_it in
    request_asked c n r uri out token u (rp_ask.Logout (logout_read_for (party_client c n) token)) refl (option_and_then (delivered c) (slice_get messages number))
    (ap (option_and_then (delivered c)) there ∙ delivered_there c n r uri out token found_it not_token not_info)
