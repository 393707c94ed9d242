-- The forms of the provider's pages, and the requests of a browser's own accord, are read as what they say.
use Rattle.std.proofs.Common.{◌≡◌, ◌<◌, ◌++◌, ℕ, [], length, Bool, true, false, Option, Some, None, refl, ap, ◌∙◌}
use Rattle.std.specs.Str.{IsUtf8, bytes_eq}
use Rattle.sso_base.specs.Words.{Word, Text, IsWord}
use Rattle.sso_base.specs.declared.http.Ask.{Ask}
use Rattle.sso_base.proofs.Utf8Bytes.{IsUtf8-are_ascii}
use Rattle.sso_base.proofs.WordTexts.{word_of_text-word_text}
use Rattle.sso_base.proofs.WordUtf8.{IsUtf8-word_text}
use Rattle.oidc_words.specs.Paths.{login_path, consent_path, signout_path, begin_path, home_path, leave_path}
use Rattle.oidc_words.specs.declared.scopes.Scopes.{Scopes}
use Rattle.client_registry.specs.Configuration.{Configuration}
use Rattle.client_registry.specs.Numbers.{party_row, party_client}
use Rattle.client_registry.specs.Registered.{IsRegistry}
use Rattle.request_params.specs.Form.{form_pairs, form_text}
use Rattle.request_params.proofs.Forms.{form_pairs-form_text}
use Rattle.op_exchange.specs.declared.ask.OpAsk.TheVariants as op_ask
use Rattle.op_exchange.specs.declared.reply.OpReply.TheVariants as op
use Rattle.op_exchange.specs.Fields.{turn_field, user_field, password_field, agree_field, agree_value}
use Rattle.op_request.specs.Prepared.{signed_user, login_asked, consent_asked}
use Rattle.rp_exchange.specs.declared.ask.RpAsk.TheVariants as rp_ask
use Rattle.rp_request.specs.Prepared as rp
use Rattle.sso_places.specs.declared.types.Jar.{Jar}
use Rattle.sso_places.specs.declared.types.WorldReply.TheVariants.{Provider as ProviderReply}
use Rattle.web_requests.specs.Sending.{got, posted}
use Rattle.web_requests.specs.Posting.{login_form, said, consent_form, refuse_value, login_posted, consent_posted}
use Rattle.web_requests.specs.Visiting.{login_begun, party_visited, party_left, signed_out}
use Rattle.web_requests.specs.Asked.{AsksProvider, AsksParty}
use Rattle.web_requests.proofs.Served.{provider_reads, party_reads, leave_asked}

-- ---- forms

login_texts : (turn : Word) (user password : Text) → IsUtf8 user → IsUtf8 password → form_pairs (form_text (login_form turn user password)) ≡ login_form turn user password
login_texts turn user password u p =
    form_pairs-form_text (login_form turn user password)
    ((IsUtf8-are_ascii turn_field refl, IsUtf8-word_text turn), ((IsUtf8-are_ascii user_field refl, u), ((IsUtf8-are_ascii password_field refl, p), tt)))

said_text : (agree : Bool) → IsUtf8 (said agree)
said_text true = IsUtf8-are_ascii agree_value refl
said_text false = IsUtf8-are_ascii refuse_value refl

consent_texts : (turn : Word) (agree : Bool) → form_pairs (form_text (consent_form turn agree)) ≡ consent_form turn agree
consent_texts turn agree =
    form_pairs-form_text (consent_form turn agree) ((IsUtf8-are_ascii turn_field refl, IsUtf8-word_text turn), ((IsUtf8-are_ascii agree_field refl, said_text agree), tt))

said_is : (agree : Bool) → bytes_eq (said agree) agree_value ≡ agree
said_is true = refl
said_is false = refl

module _ (c : Configuration) (from : ℕ) (jar : Jar) where
  login_asked_so : (turn : Word) (user password : Text) (request : Ask) → IsWord turn → login_asked c request (login_form turn user password) ≡ op_ask.Login (Some turn) (signed_user c user password) request.first request.second
  login_asked_so turn user password request is = ap (λ o. op_ask.Login o (signed_user c user password) request.first request.second) (word_of_text-word_text turn is)

  pub login_read : (turn browser : Word) (again : Bool) (user password : Text) → IsWord turn → IsUtf8 user → IsUtf8 password
      → AsksProvider c from (login_posted c from (ProviderReply (op.LoginPage turn browser again)) user password jar) (op_ask.Login (Some turn) (signed_user c user password) jar.first jar.second)
  unfolding login_posted
  login_read turn browser again user password is u p =
      let request : Ask = posted (c.prefix ++ login_path) (Some (form_text (login_form turn user password))) jar in
      record {
        request = request;
        is = refl;
        read = provider_reads c request login_path refl ∙ ap (login_asked c request) (login_texts turn user password u p) ∙ login_asked_so turn user password request is;
      }

  consent_asked_so : (turn : Word) (agree : Bool) (request : Ask) → IsWord turn → consent_asked request (consent_form turn agree) ≡ op_ask.Consent (Some turn) agree request.first request.second
  consent_asked_so turn agree request is =
      ap (λ o. op_ask.Consent o (bytes_eq (said agree) agree_value) request.first request.second) (word_of_text-word_text turn is)
      ∙ ap (λ b. op_ask.Consent (Some turn) b request.first request.second) (said_is agree)

  pub consent_read : (turn browser : Word) (given : Option Word) (client : Text) (scopes : Scopes) (agree : Bool) → IsWord turn
      → AsksProvider c from (consent_posted c from (ProviderReply (op.ConsentPage turn browser given client scopes)) agree jar) (op_ask.Consent (Some turn) agree jar.first jar.second)
  unfolding consent_posted
  consent_read turn browser given client scopes agree is =
      let request : Ask = posted (c.prefix ++ consent_path) (Some (form_text (consent_form turn agree))) jar in
      record {
        request = request;
        is = refl;
        read = provider_reads c request consent_path refl ∙ ap (consent_asked request) (consent_texts turn agree) ∙ consent_asked_so turn agree request is;
      }

  -- ---- requests of a browser's own accord

  pub sign_out_read : AsksProvider c from (Some (signed_out c from jar)) (op_ask.SignOut jar.second)
  sign_out_read =
      let request : Ask = posted (c.prefix ++ signout_path) None jar in
      record { request = request; is = refl; read = provider_reads c request signout_path refl }

  module _ (n : ℕ) (r : IsRegistry c) (low : n < length c.parties) where
    pub begin_read : AsksParty c from n (Some (login_begun from n jar)) (rp_ask.Begin jar.first)
    begin_read =
        let request : Ask = got begin_path [] jar in
        record { request = request; is = refl; read = party_reads c n r low request }

    pub visit_read : AsksParty c from n (Some (party_visited from n jar)) (rp_ask.Visit jar.second)
    visit_read =
        let request : Ask = got home_path [] jar in
        record { request = request; is = refl; read = party_reads c n r low request }

    pub leave_read : AsksParty c from n (Some (party_left from n jar)) (rp_ask.Leave jar.second)
    leave_read =
        let request : Ask = posted leave_path None jar in
        record { request = request; is = refl; read = party_reads c n r low request ∙ ap (rp.asked_at (party_client c n) (party_row c n).types request) (leave_asked c n r low) }
