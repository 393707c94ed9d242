-- Messages that are carried arrive as they were written, and answers that are handed back as they were printed.
use Rattle.std.proofs.Common.{◌≡◌, ◌+◌, ◌++◌, ℕ, List, [], length, Bool, true, false, cond, Option, Some, option_map, slice_get, Ok, refl, sym, ap, ◌∙◌, inl, inr, arith, length-append}
use Rattle.std.specs.Str.{IsUtf8, bytes_eq}
use Rattle.sso_base.specs.Words.{Word, Text, IsWord, word_text}
use Rattle.sso_base.specs.Texts.{is_given}
use Rattle.sso_base.specs.declared.http.Ask.{Ask}
use Rattle.sso_base.specs.declared.message.Message.{Message}
use Rattle.sso_base.proofs.RowLaws.{bool_cases, bytes_same, bytes_true}
use Rattle.oidc_words.specs.Paths.{token_path, userinfo_path}
use Rattle.client_registry.specs.declared.records.Client.{Client}
use Rattle.client_registry.specs.declared.records.Provider.{Provider}
use Rattle.client_registry.specs.Records.{without_slash}
use Rattle.oidc_words.specs.declared.scopes.Scopes.{Scopes}
use Rattle.claim_set.specs.Reading.{claims_text}
use Rattle.client_registry.specs.Configuration.{Configuration, subject_at}
use Rattle.client_registry.specs.Numbers.{party_client}
use Rattle.client_registry.specs.Registered.{IsRegistry}
use Rattle.token_endpoint.specs.Request.{token_message}
use Rattle.token_endpoint.proofs.RoundTrip.{printed_granted}
use Rattle.userinfo.specs.Request.{info_message}
use Rattle.userinfo.specs.declared.header.Bearer.TheVariants.{Given}
use Rattle.userinfo.specs.Held.{info_members}
use Rattle.userinfo.proofs.BearerHeaders.{printed_is_read}
use Rattle.userinfo.proofs.RoundTrip.{written_is_read}
use Rattle.op_exchange.specs.declared.ask.OpAsk.TheVariants as op_ask
use Rattle.op_exchange.specs.declared.reply.OpReply.TheVariants as op
use Rattle.op_response.specs.Telling.{http_of as op_http}
use Rattle.op_response.proofs.ReplyLaws.{tokens_are_read}
use Rattle.rp_exchange.specs.declared.ask.RpAsk.TheVariants as rp_ask
use Rattle.rp_exchange.specs.declared.reply.RpReply.TheVariants as rp
use Rattle.rp_request.specs.Opened.{id_read_for}
use Rattle.rp_request.specs.Prepared.{tokens_asked, tokens_prepared, info_prepared}
use Rattle.sso_places.specs.declared.types.To.TheVariants as to
use Rattle.sso_places.specs.declared.types.WorldReply.TheVariants.{Provider as ProviderReply, Party as PartyReply}
use Rattle.web_requests.specs.declared.sent.Sent.{Sent}
use Rattle.web_requests.specs.Carrying.{message_ask, at_provider, carried, party_of_logout, at_party}
use Rattle.web_requests.specs.Handing.{answer_in, printed, handed_back}
use Rattle.web_requests.specs.Asked.{AsksProvider, AnswersTokens, AnswersInfo}
use Rattle.web_requests.proofs.Served.{provider_reads}

-- ---- a token request

module _ (c : Configuration) (r : IsRegistry c) where
  pub token_request_read : (n : ℕ) (client : Client) (w : Word) (code redirect : Text) → slice_get c.clients n ≡ Some client → IsUtf8 code → IsUtf8 redirect
      → AsksProvider c 0 (carried c (PartyReply (rp.Exchange w (token_message client c.provider.token code redirect))) 0) (op_ask.Token (Ok (record { client = n; code = code; redirect = redirect })))
  unfolding carried token_message
  token_request_read n client w code redirect there u v =
      let message : Message = token_message client c.provider.token code redirect in
      let request : Ask = message_ask (c.prefix ++ token_path) [] message in
      let D : Bool → Option Sent = λ b. cond b (Some (at_provider c token_path message)) (cond (is_given message.to c.provider.userinfo) (Some (at_provider c userinfo_path message)) (option_map (at_party c message) (party_of_logout c message.to))) in
      record {
        request = request;
        is = ap D (bytes_true c.provider.token c.provider.token refl);
        read = provider_reads c request token_path refl ∙ ap op_ask.Token (printed_granted c n client c.provider.token code redirect r there u v);
      }

  -- ---- a UserInfo request

  token_apart : (t : Text) → bytes_eq (t ++ token_path) (t ++ userinfo_path) ≡ false
  token_apart t =
      elim (bool_cases (bytes_eq (t ++ token_path) (t ++ userinfo_path))) [
        | inl same ↦
            (let long : length (t ++ token_path) ≡ length (t ++ userinfo_path) = ap length (bytes_same (t ++ token_path) (t ++ userinfo_path) same) in
            let one : length (t ++ token_path) ≡ length t + 6 = length-append t token_path in
            let two : length (t ++ userinfo_path) ≡ length t + 9 = length-append t userinfo_path in
            absurd (omega (arith, long, one, two)))
        | inr other ↦ other
      ]

  one_text : (s t : Text) → Some s ≡ Some t → s ≡ t
  one_text s t h = cc

  endpoint_apart : (endpoint : Text) → c.provider.userinfo ≡ Some endpoint → bytes_eq c.provider.token endpoint ≡ false
  endpoint_apart endpoint is =
      let issuer = c.provider.issuer in
      let there : without_slash issuer ++ userinfo_path ≡ endpoint = one_text (without_slash issuer ++ userinfo_path) endpoint (sym (ap (λ (p : Provider). p.userinfo) r.provider) ∙ is) in
      ap (λ (p : Provider). bytes_eq p.token endpoint) r.provider ∙ ap (bytes_eq (without_slash issuer ++ token_path)) (sym there) ∙ token_apart (without_slash issuer)

  pub info_request_read : (endpoint : Text) (w access : Word) → c.provider.userinfo ≡ Some endpoint → IsWord access
      → AsksProvider c 0 (carried c (PartyReply (rp.Fetch w (info_message endpoint (word_text access)))) 0) (op_ask.Info (Given access))
  unfolding carried info_message
  info_request_read endpoint w access is word =
      let message : Message = info_message endpoint (word_text access) in
      let request : Ask = message_ask (c.prefix ++ userinfo_path) [] message in
      let rest : Bool → Option Sent = λ b. cond b (Some (at_provider c userinfo_path message)) (option_map (at_party c message) (party_of_logout c message.to)) in
      let D : Bool → Option Sent = λ b. cond b (Some (at_provider c token_path message)) (rest (is_given endpoint c.provider.userinfo)) in
      let found : is_given endpoint c.provider.userinfo ≡ true = ap (is_given endpoint) is ∙ bytes_true endpoint endpoint refl in
      record {
        request = request;
        is = ap D (endpoint_apart endpoint is) ∙ ap rest found;
        read = provider_reads c request userinfo_path refl ∙ ap op_ask.Info (printed_is_read endpoint access word);
      }

-- ---- a token response

pub tokens_handed : (c : Configuration) (from n : ℕ) (w access : Word) (message : Message) (id : Text) → IsUtf8 id
    → AnswersTokens c from n w (handed_back c from (to.Party n) (PartyReply (rp.Exchange w message)) to.Provider (ProviderReply (op.Tokens access id)))
    (rp_ask.Tokens w (Ok (record { access = word_text access; id = id })) (Some (id_read_for (party_client c n) id)))
unfolding handed_back printed tokens_prepared
tokens_handed c from n w access message id u =
    record {
      answer = answer_in (op_http c (op.Tokens access id));
      is = refl;
      read = ap (tokens_asked (party_client c n) w) (tokens_are_read c access id u);
    }

-- ---- a UserInfo response

pub info_handed : (c : Configuration) (from n client user : ℕ) (w : Word) (message : Message) (scopes : Scopes) (asked : List Text) → IsRegistry c
    → AnswersInfo from n w (handed_back c from (to.Party n) (PartyReply (rp.Fetch w message)) to.Provider (ProviderReply (op.Info (claims_text (info_members c client user scopes asked)))))
    (rp_ask.Info w (Ok (subject_at c client user)))
unfolding handed_back printed op_http info_prepared
info_handed c from n client user w message scopes asked r =
    record {
      answer = record { status = 200; body = claims_text (info_members c client user scopes asked) };
      is = refl;
      read = ap (rp_ask.Info w) (written_is_read c client user scopes asked r);
    }
