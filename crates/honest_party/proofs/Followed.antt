-- What the provider answers to a party's own wish, followed, is the party's response; and what the party then sends, carried, is
-- read as it was meant.
use Rattle.std.proofs.Common.{◌≡◌, ◌<◌, ◌||◌, ℕ, zero, suc, Bool, true, false, List, length, Option, Some, None, is_some, option_map, option_and_then, Result, Ok, refl, sym, ap, ◌∙◌, subst, arith}
use Rattle.std.specs.Prelude.{IfSome}
use Rattle.std.specs.Str.{IsUtf8}
use Rattle.sso_base.specs.Words.{Word, Text, IsWord, fresh_word, word_text, word_of_text}
use Rattle.sso_base.specs.declared.message.Message.{Message}
use Rattle.sso_base.proofs.Utf8Bytes.{IsUtf8-are_ascii}
use Rattle.sso_base.proofs.WordTexts.{word_of_text-word_text}
use Rattle.sso_base.proofs.WordUtf8.{IsUtf8-word_text}
use Rattle.jws_compact.proofs.Ascii.{sealed_ascii}
use Rattle.claim_set.specs.Reading.{claims_text}
use Rattle.claim_set.proofs.PlainTexts.{IsUtf8-plain}
use Rattle.oidc_words.specs.declared.response_types.Types.{Types}
use Rattle.oidc_words.specs.Types.{types_of_number}
use Rattle.client_registry.specs.declared.records.Client.{Client}
use Rattle.client_registry.specs.declared.records.Party.{Party}
use Rattle.client_registry.specs.Configuration.{Configuration}
use Rattle.client_registry.specs.Numbers.{client_at, party_row, party_client, client_sealing, no_client}
use Rattle.client_registry.specs.Secrets.{has_secret}
use Rattle.client_registry.proofs.SecretFacts.{sealing_own}
use Rattle.client_registry.specs.Registered.{IsRegistry}
use Rattle.auth_request.specs.declared.wish.Wish.{Wish}
use Rattle.auth_request.specs.Values.{IsWishValue}
use Rattle.auth_answer.specs.declared.answer.Answer.{Answer}
use Rattle.auth_answer.specs.declared.heard.Heard.{Heard}
use Rattle.auth_answer.specs.Sent.{answer_heard}
use Rattle.id_token.specs.declared.claims.IdClaims.{IdClaims}
use Rattle.id_token.specs.declared.no.IdNo.{IdNo}
use Rattle.id_token.specs.Claims.{id_members}
use Rattle.id_token.specs.Sealing.{id_text}
use Rattle.jws_compact.specs.declared.sealing.Typ.TheVariants.{Jwt}
use Rattle.token_endpoint.specs.Request.{token_message}
use Rattle.login_request.proofs.PartyRows.{KeepRules, client_is_known, rows_keep_rules, url_text}
use Rattle.op_issue.specs.declared.issuing.Authentication.{Authentication}
use Rattle.op_issue.specs.IdTokens.{id_claims, issued_id}
use Rattle.op_issue.specs.Issued.{if_wished, issued_code, issued_access, issued}
use Rattle.op_issue.specs.Issuing.{MayIssue}
use Rattle.op_issue.proofs.Sealable.{is_read_back}
use Rattle.op_exchange.specs.declared.ask.OpAsk.TheVariants as op_ask
use Rattle.op_exchange.specs.declared.reply.OpReply.TheVariants as op
use Rattle.rp_exchange.specs.declared.ask.RpAsk.{RpAsk}
use Rattle.rp_exchange.specs.declared.ask.RpAsk.TheVariants as rp_ask
use Rattle.rp_exchange.specs.declared.reply.RpReply.TheVariants as rp
use Rattle.rp_request.specs.Opened.{id_read_for}
use Rattle.rp_request.proofs.Opened.{id_alike}
use Rattle.sso_places.specs.declared.types.Jar.{Jar}
use Rattle.sso_places.specs.declared.types.To.TheVariants as to
use Rattle.sso_places.specs.declared.types.WorldReply.TheVariants.{Provider as ProviderReply, Party as PartyReply}
use Rattle.honest_places.specs.OwnWish.{own_wish}
use Rattle.honest_places.proofs.OwnWish.{below_of, own_types_are}
use Rattle.web_requests.specs.Following.{reply_followed}
use Rattle.web_requests.specs.Carrying.{carried}
use Rattle.web_requests.specs.Handing.{handed_back}
use Rattle.web_requests.specs.Asked.{AsksProvider, AsksParty, AnswersTokens}
use Rattle.web_requests.proofs.RegistryRows.{some_row}
use Rattle.web_requests.proofs.FollowedResponses.{answer_followed_read}
use Rattle.web_requests.proofs.CarriedMessages.{token_request_read, tokens_handed}

-- ---- what is issued is a text, and is read by the party

pub issued_utf8 : (c : Configuration) (wish : Wish) (who : Authentication) (at : ℕ) (access code : Option Word) → IsUtf8 (issued_id c wish who at access code)
unfolding issued_id id_text
issued_utf8 c wish who at access code =
    let key : Text = client_sealing c wish.client in
    let payload : Text = claims_text (id_members (id_claims c wish who at access code)) in
    IsUtf8-are_ascii (issued_id c wish who at access code) (sealed_ascii key payload Jwt)

module _ (c : Configuration) (n : ℕ) (r : IsRegistry c) (low : n < length c.parties) where
  abbrev party : Party
  party = party_row c n

  rules : KeepRules party (party_client c n)
  rules = rows_keep_rules c n r low

  client_there : client_at c party.client ≡ Some (party_client c n)
  client_there = some_row c.clients party.client no_client (client_is_known c n r low)

  -- what is sealed for the party's client is sealed under a secret of it
  sealed_own : (client : ℕ) → client ≡ party.client → has_secret (client_sealing c client) (party_client c n) ≡ true
  sealed_own client is = sealing_own c client (party_client c n) (ap (client_at c) is ∙ client_there)

  pub issued_is_read : (wish : Wish) (who : Authentication) (at : ℕ) (access code : Option Word) → wish.client ≡ party.client → MayIssue c wish who at → IsWishValue wish
      → id_read_for (party_client c n) (issued_id c wish who at access code) ≡ Ok (id_claims c wish who at access code)
  issued_is_read wish who at access code client may value =
      id_alike (party_client c n) (client_sealing c wish.client) (issued_id c wish who at access code) (id_claims c wish who at access code)
      (sealed_own wish.client client) (is_read_back c wish who at access code may value)

  -- ---- an answer

  some_flag : (k : ℕ) → k < 6 → (types_of_number (Some k)).code || ((types_of_number (Some k)).token || (types_of_number (Some k)).id_token) ≡ true
  some_flag zero l = refl
  some_flag (suc zero) l = refl
  some_flag (suc (suc zero)) l = refl
  some_flag (suc (suc (suc zero))) l = refl
  some_flag (suc (suc (suc (suc zero)))) l = refl
  some_flag (suc (suc (suc (suc (suc zero))))) l = refl
  some_flag (suc (suc (suc (suc (suc (suc k)))))) l = absurd (omega (arith, l))

  has_flag : (party.types.code || (party.types.token || party.types.id_token)) ≡ true
  has_flag =
      let low : rules.fit.number < length (party_client c n).types = below_of (party_client c n).types rules.fit.number true rules.fit.has_type in
      let six : rules.fit.number < 6 = omega (arith, low, rules.client_rules.types) in
      ap (λ (t : Types). t.code || (t.token || t.id_token)) rules.fit.types ∙ some_flag rules.fit.number six

  parts_of_flags : (code token id_token : Bool) (v w t : Text) → (code || (token || id_token)) ≡ true → (is_some (if_wished code v) || is_some (if_wished token w) || is_some (if_wished id_token t)) ≡ true
  parts_of_flags true token id_token v w t h = refl
  parts_of_flags false true id_token v w t h = refl
  parts_of_flags false false true v w t h = refl
  parts_of_flags false false false v w t h = absurd (cc)

  id_of_flag : (flag : Bool) (t : Text) → IsUtf8 t → IfSome (if_wished flag t) IsUtf8
  id_of_flag true t h = h
  id_of_flag false t h = tt

  read_of_flag : (flag : Bool) (client : Client) (t : Text) (x : IdClaims) → id_read_for client t ≡ Ok x → option_map (id_read_for client) (if_wished flag t) ≡ if_wished flag (Ok x)
  read_of_flag true client t x h = ap (λ (o : Result IdClaims IdNo). Some o) h
  read_of_flag false client t x h = refl

  -- what a party hears of the answer to a wish
  abbrev pub heard_of : Wish → Authentication → ℕ → List Word → Word → Heard
  heard_of wish who at fresh state = answer_heard (issued c wish who at fresh) (Some state)

  abbrev pub claims_of : Wish → Authentication → ℕ → List Word → IdClaims
  claims_of wish who at fresh = id_claims c wish who at (issued_access wish fresh) (issued_code wish fresh)

  pub record PartysWish (wish : Wish) (named : Word) : Type 0 where
    pub client : wish.client ≡ party.client
    pub redirect : wish.redirect ≡ party.redirect
    pub types : wish.types ≡ party.types
    pub state : wish.state ≡ Some (word_text named)
    pub word : IsWord named

  state_utf8 : (o : Option Text) (state : Word) → o ≡ Some (word_text state) → IfSome o IsUtf8
  state_utf8 o state is = subst (λ x. IfSome x IsUtf8) (sym is) (IsUtf8-word_text state)

  pub answer_arrives : (wish : Wish) (who : Authentication) (at : ℕ) (fresh : List Word) (state : Word) (given : Option Word) (from : ℕ) (jar : Jar)
      → PartysWish wish state → MayIssue c wish who at → IsWishValue wish
      → AsksParty c from n (reply_followed c from (ProviderReply (op.Answered (issued c wish who at fresh) given)) jar)
      (rp_ask.Callback (Ok (heard_of wish who at fresh state)) (if_wished wish.types.id_token (Ok (claims_of wish who at fresh))) jar.first)
  answer_arrives wish who at fresh state given from jar own may value =
      let answer : Answer = issued c wish who at fresh in
      let text : Text = issued_id c wish who at (issued_access wish fresh) (issued_code wish fresh) in
      let flags : (wish.types.code || (wish.types.token || wish.types.id_token)) ≡ true = ap (λ (t : Types). t.code || (t.token || t.id_token)) own.types ∙ has_flag in
      let word : option_and_then word_of_text wish.state ≡ Some state = ap (option_and_then word_of_text) own.state ∙ word_of_text-word_text state own.word in
      let read : option_map (id_read_for (party_client c n)) answer.id ≡ if_wished wish.types.id_token (Ok (claims_of wish who at fresh)) =
      read_of_flag wish.types.id_token (party_client c n) text (claims_of wish who at fresh) (issued_is_read wish who at (issued_access wish fresh) (issued_code wish fresh) own.client may value) in
      let A : RpAsk → Type 0 = λ a. AsksParty c from n (reply_followed c from (ProviderReply (op.Answered answer given)) jar) a in
      subst A
      (ap (λ o. rp_ask.Callback (Ok (answer_heard answer o)) (option_map (id_read_for (party_client c n)) answer.id) jar.first) word
      ∙ ap (λ i. rp_ask.Callback (Ok (answer_heard answer (Some state))) i jar.first) read)
      (answer_followed_read c n r low from given jar answer (sym own.redirect)
      (parts_of_flags wish.types.code wish.types.token wish.types.id_token (fresh_word fresh 2) (fresh_word fresh 3) text flags)
      (state_utf8 wish.state state own.state)
      (id_of_flag wish.types.id_token text (issued_utf8 c wish who at (issued_access wish fresh) (issued_code wish fresh))))

  -- ---- a token request, and its answer

  redirect_utf8 : IsUtf8 party.redirect
  redirect_utf8 = IsUtf8-plain party.redirect (url_text party.redirect party.redirect_url rules.party_rules.redirect).plain

  pub exchange_arrives : (pending code : Word) → AsksProvider c 0 (carried c (PartyReply (rp.Exchange pending (token_message (party_client c n) c.provider.token (word_text code) party.redirect))) 0)
      (op_ask.Token (Ok (record { client = party.client; code = word_text code; redirect = party.redirect })))
  exchange_arrives pending code =
      token_request_read c r party.client (party_client c n) pending (word_text code) party.redirect client_there (IsUtf8-word_text code) redirect_utf8

  pub tokens_arrive : (wish : Wish) (who : Authentication) (at from : ℕ) (pending access : Word) (message : Message) → wish.client ≡ party.client → MayIssue c wish who at → IsWishValue wish
      → AnswersTokens c from n pending (handed_back c from (to.Party n) (PartyReply (rp.Exchange pending message)) to.Provider (ProviderReply (op.Tokens access (issued_id c wish who at (Some access) None))))
      (rp_ask.Tokens pending (Ok (record { access = word_text access; id = issued_id c wish who at (Some access) None })) (Some (Ok (id_claims c wish who at (Some access) None))))
  tokens_arrive wish who at from pending access message client may value =
      let text : Text = issued_id c wish who at (Some access) None in
      let A : Result IdClaims IdNo → Type 0 = λ read. AnswersTokens c from n pending (handed_back c from (to.Party n) (PartyReply (rp.Exchange pending message)) to.Provider (ProviderReply (op.Tokens access text)))
      (rp_ask.Tokens pending (Ok (record { access = word_text access; id = text })) (Some read)) in
      subst A (issued_is_read wish who at (Some access) None client may value) (tokens_handed c from n pending access message text (issued_utf8 c wish who at (Some access) None))

  -- ---- its own wish

  pub own_wish_partys : (state nonce : Word) → IsWord state → PartysWish (own_wish c n state nonce) state
  own_wish_partys state nonce word = record { client = refl; redirect = refl; types = own_types_are c n state nonce r low; state = refl; word = word }
