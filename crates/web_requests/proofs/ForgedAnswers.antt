-- A forged answer that is followed is read by the party as the same parts, with an ID Token of the other subject.
use Rattle.std.proofs.Common.{◌≡◌, ◌<◌, ◌∷◌, codes, ℕ, length, Bool, true, false, ◌||◌, cond, Option, Some, None, is_some, Ok, option_map, option_and_then, refl, sym, ap, ◌∙◌, subst}
use Rattle.std.specs.Prelude.{IfSome}
use Rattle.std.specs.Str.{IsUtf8}
use Rattle.std.proofs.lemmas.Str.{IsUtf8-append}
use Rattle.hmac256.specs.Hmac.{hmac_of}
use Rattle.sso_base.specs.Base64Url.{b64u}
use Rattle.sso_base.specs.Words.{Word, Text, word_of_text}
use Rattle.sso_base.proofs.Utf8Bytes.{IsUtf8-are_ascii}
use Rattle.sso_base.proofs.WordUtf8.{IsUtf8-word_text}
use Rattle.jws_compact.specs.Jws.{seal_text, header_bytes, signing_input}
use Rattle.jws_compact.specs.declared.sealing.Typ.TheVariants.{Jwt}
use Rattle.claim_set.specs.Reading.{claims_text}
use Rattle.client_registry.specs.declared.records.Client.{Client}
use Rattle.client_registry.specs.Configuration.{Configuration}
use Rattle.client_registry.specs.Numbers.{client_at, party_client, party_row, no_client}
use Rattle.client_registry.specs.Secrets.{has_secret}
use Rattle.client_registry.specs.Registered.{IsRegistry}
use Rattle.id_token.specs.declared.claims.IdClaims.{IdClaims}
use Rattle.id_token.specs.Claims.{id_members}
use Rattle.id_token.specs.Sealing.{id_text, HasTexts, IsSealable}
use Rattle.auth_answer.specs.declared.answer.Answer.{Answer}
use Rattle.auth_answer.specs.Sent.{answer_heard}
use Rattle.op_exchange.specs.declared.reply.OpReply.TheVariants as op
use Rattle.rp_exchange.specs.declared.ask.RpAsk.TheVariants as rp_ask
use Rattle.login_request.proofs.PartyRows.{client_is_known}
use Rattle.rp_request.specs.Opened.{id_read_for}
use Rattle.sso_places.specs.declared.types.Jar.{Jar}
use Rattle.sso_places.specs.declared.types.WorldReply.TheVariants.{Provider as ProviderReply}
use Rattle.web_requests.specs.declared.location.Location.{Location}
use Rattle.web_requests.specs.Locations.{answer_at, location_of}
use Rattle.web_requests.specs.Following.{followed}
use Rattle.web_requests.specs.Forging.{may_be_sealed, resealed, forged_id, client_with, forged_in, with_id, forged}
use Rattle.web_requests.specs.Asked.{AsksParty, has_part}
use Rattle.web_requests.proofs.RegistryRows.{some_row, client_found}
use Rattle.web_requests.proofs.FollowedResponses.{answer_followed_read}
use Rattle.web_requests.proofs.ForgedTokens.{own_secret, read_for, opened, with_subject}

-- ---- an ID Token is a text in UTF-8

dotted_text : (b : Text) → IsUtf8 (46 ∷ b64u b)
dotted_text b = IsUtf8-append (codes ".") (b64u b) (IsUtf8-are_ascii (codes ".") refl) (IsUtf8-word_text b)

pub token_is_text : (secret : Text) (x : IdClaims) → IsUtf8 (id_text secret x)
unfolding id_text seal_text
token_is_text secret x =
    let header = header_bytes Jwt in
    let payload = claims_text (id_members x) in
    let input = signing_input header payload in
    IsUtf8-append input (46 ∷ b64u (hmac_of secret input)) (IsUtf8-append (b64u header) (46 ∷ b64u payload) (IsUtf8-word_text header) (dotted_text payload)) (dotted_text (hmac_of secret input))

-- ---- an answer with one has a part

or_true : (b : Bool) → (b || true) ≡ true
or_true true = refl
or_true false = refl

has_id : (answer : Answer) (id : Text) → has_part (with_id answer id) ≡ true
has_id answer id = or_true (is_some answer.code || is_some answer.access)

-- ---- the party of the redirection URI

module _ (c : Configuration) (n : ℕ) (r : IsRegistry c) (low : n < length c.parties) where
  client_there : (uri : Text) → (party_row c n).redirect ≡ uri → client_with c uri ≡ Some (party_client c n)
  client_there uri is =
      ap (client_with c) (sym is) ∙ ap (option_and_then (client_at c)) (client_found c n r low) ∙ some_row c.clients (party_row c n).client no_client (client_is_known c n r low)

  module _ (answer : Answer) (key : Text) (claims : IdClaims) (user : Text) (is : (party_row c n).redirect ≡ answer.redirect) (own : has_secret key (party_client c n) ≡ true) (token : answer.id ≡ Some (id_text key claims)) (t : HasTexts claims) (s : IsSealable claims) where
    abbrev client : Client
    client = party_client c n

    abbrev secret : Text
    secret = client.secret

    abbrev other : IdClaims
    other = record claims { sub = user }

    abbrev forged_so : Answer
    forged_so = with_id answer (id_text secret other)

    token_forged : forged_in c answer user ≡ resealed secret user claims
    token_forged =
        ap (option_and_then (λ id. option_and_then (forged_id user id) (client_with c answer.redirect))) token
        ∙ ap (option_and_then (forged_id user (id_text key claims))) (client_there answer.redirect is)
        ∙ opened client key user claims own s

    answer_forged : (given : Option Word) → forged c (ProviderReply (op.Answered answer given)) user ≡ option_map (answer_at c) (option_map (with_id answer) (resealed secret user claims))
    unfolding forged
    answer_forged given = ap (λ o. option_map (answer_at c) (option_map (with_id answer) o)) token_forged

    one_location : (l m : Location) → Some l ≡ Some m → l ≡ m
    one_location l m h = cc

    sealed_at : (b : Bool) (l : Location) → may_be_sealed other ≡ b → option_map (answer_at c) (option_map (with_id answer) (cond b (Some (id_text secret other)) None)) ≡ Some l
        → (may_be_sealed other ≡ true) × (answer_at c forged_so ≡ l)
    sealed_at true l may h = (may, one_location (answer_at c forged_so) l h)
    sealed_at false l may h = absurd (cc)

    pub forged_followed_read : (given : Option Word) (from : ℕ) (jar : Jar) (l : Location) → IfSome answer.state IsUtf8 → forged c (ProviderReply (op.Answered answer given)) user ≡ Some l
        → AsksParty c from n (followed c from l jar) (rp_ask.Callback (Ok (answer_heard forged_so (option_and_then word_of_text answer.state))) (Some (Ok other)) jar.first)
    unfolding location_of
    forged_followed_read given from jar l state h =
        let so = sealed_at (may_be_sealed other) l refl (sym (answer_forged given) ∙ h) in
        let read : id_read_for client (id_text secret other) ≡ Ok other = read_for client secret other (own_secret client) (with_subject claims user t s so.0) in
        let asked : AsksParty c from n (followed c from (answer_at c forged_so) jar) (rp_ask.Callback (Ok (answer_heard forged_so (option_and_then word_of_text answer.state))) (Some (id_read_for client (id_text secret other))) jar.first)
        = answer_followed_read c n r low from given jar forged_so is (has_id answer (id_text secret other)) state (token_is_text secret other) in
        subst (λ m. AsksParty c from n (followed c from m jar) (rp_ask.Callback (Ok (answer_heard forged_so (option_and_then word_of_text answer.state))) (Some (Ok other)) jar.first)) so.1
        (subst (λ i. AsksParty c from n (followed c from (answer_at c forged_so) jar) (rp_ask.Callback (Ok (answer_heard forged_so (option_and_then word_of_text answer.state))) (Some i) jar.first)) read asked)
