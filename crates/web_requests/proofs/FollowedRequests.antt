-- An authorization request that is followed is read by the provider as the parameters of the login.
use Rattle.std.proofs.Common.{◌≡◌, ◌++◌, ℕ, List, Bool, true, false, cond, codes, Some, option_and_then, refl, ap, ◌∙◌, inl, inr}
use Rattle.std.specs.List.{after_first}
use Rattle.sso_base.specs.Words.{Word}
use Rattle.sso_base.specs.RequestLine.{is_question}
use Rattle.sso_base.specs.declared.http.Ask.{Ask}
use Rattle.oidc_words.specs.Paths.{authorize_path}
use Rattle.client_registry.specs.declared.records.Client.{Client}
use Rattle.client_registry.specs.declared.records.Party.{Party}
use Rattle.client_registry.specs.Configuration.{Configuration}
use Rattle.client_registry.specs.Numbers.{party_row, party_client, no_client}
use Rattle.request_params.specs.Printing.{request_form}
use Rattle.request_params.proofs.Requests.{read-request}
use Rattle.request_params.proofs.MergeLaws.{merged-is}
use Rattle.request_object.proofs.Objects.{request_read-object}
use Rattle.auth_request.specs.Judgement.{judgement}
use Rattle.login_request.specs.Parties.{MayAsk}
use Rattle.login_request.specs.Request.{login_params, outer_params, sent_params, login_object, login_location}
use Rattle.login_request.proofs.PartyRows.{client_is_known}
use Rattle.login_request.proofs.Asked.{located, plain_read, beside_read, object_read, whole_merged}
use Rattle.op_exchange.specs.declared.ask.OpAsk.TheVariants as op_ask
use Rattle.op_request.specs.Requests.{HasObject}
use Rattle.op_request.specs.Prepared.{prepared as op_prepared}
use Rattle.op_request.proofs.GrantedWishes.{judged_request}
use Rattle.rp_exchange.specs.declared.reply.RpReply.TheVariants as rp
use Rattle.sso_places.specs.declared.types.Jar.{Jar}
use Rattle.sso_places.specs.declared.types.WorldReply.TheVariants.{Party as PartyReply}
use Rattle.web_requests.specs.declared.location.Location.{Location}
use Rattle.web_requests.specs.declared.location.Location.TheVariants as location
use Rattle.web_requests.specs.Sending.{got}
use Rattle.web_requests.specs.Locations.{location_of}
use Rattle.web_requests.specs.Following.{followed, reply_followed}
use Rattle.web_requests.specs.Asked.{AsksProvider, whole_params}
use Rattle.web_requests.proofs.Unmarked.{query_behind, no_query_there}
use Rattle.web_requests.proofs.RegistryRows.{some_row}

module _ (c : Configuration) (n : ℕ) (state nonce : Word) (m : MayAsk c n c.provider.issuer state nonce) where
  abbrev client : Client
  client = party_client c n

  abbrev party : Party
  party = party_row c n

  abbrev sent_form : List ℕ
  sent_form = request_form (sent_params client party c.provider state nonce)

  -- what follows the first `?` of the location is the form of the request
  form_there : after_first is_question (login_location client party c.provider state nonce) ≡ sent_form
  form_there =
      ap (after_first is_question) (located client party c.provider state nonce)
      ∙ ap (λ b. after_first is_question (c.provider.authorize ++ cond b (codes "&") (codes "?") ++ sent_form)) (no_query_there c m.registry)
      ∙ query_behind c sent_form m.registry (no_query_there c m.registry)

  pub request_there : (browser : Word) → location_of c (PartyReply (rp.Ask (login_location client party c.provider state nonce) browser)) ≡ Some (location.Provider sent_form)
  unfolding location_of
  request_there browser = ap (λ form. Some (location.Provider form)) form_there

  -- ---- what the provider reads

  module _ (jar : Jar) where
    abbrev request : Ask
    request = got (c.prefix ++ authorize_path) sent_form jar

    -- without a request object
    plain : party.signed ≡ false → op_prepared c request ≡ op_ask.Authorize (judgement c (login_params client party state nonce) false) jar.first jar.second
    plain unsigned =
        judged_request c request (login_params client party state nonce) (login_params client party state nonce) m.registry.client_ids (record { rest = authorize_path; path = refl; listed = inr (inr (inl refl)) })
        (read-request sent_form (login_params client party state nonce) (plain_read c n c.provider state nonce m unsigned)) (inl (refl, refl))

    -- with one
    has_object : HasObject c (outer_params client party (login_object client party c.provider.issuer state nonce)) (login_params client party state nonce)
    has_object = record {
      object = login_object client party c.provider.issuer state nonce;
      stands = refl;
      number = party.client;
      client = client;
      there = some_row c.clients party.client no_client (client_is_known c n m.registry m.party);
      named = refl;
      is_object = request_read-object client c.provider.issuer (login_object client party c.provider.issuer state nonce) (login_params client party state nonce) (object_read c n c.provider state nonce m);
    }

    signed : party.signed ≡ true → op_prepared c request ≡ op_ask.Authorize (judgement c (record (login_params client party state nonce) { request = Some (login_object client party c.provider.issuer state nonce) }) false) jar.first jar.second
    signed is =
        judged_request c request (outer_params client party (login_object client party c.provider.issuer state nonce))
        (record (login_params client party state nonce) { request = Some (login_object client party c.provider.issuer state nonce) }) m.registry.client_ids (record { rest = authorize_path; path = refl; listed = inr (inr (inl refl)) })
        (read-request sent_form (outer_params client party (login_object client party c.provider.issuer state nonce)) (beside_read c n c.provider state nonce m is))
        (inr (
          login_params client party state nonce,
          has_object,
          merged-is (outer_params client party (login_object client party c.provider.issuer state nonce)) (login_params client party state nonce)
              (record (login_params client party state nonce) { request = Some (login_object client party c.provider.issuer state nonce) }) (whole_merged client party state nonce (login_object client party c.provider.issuer state nonce)),
        ))

    whole_at : (b : Bool) → party.signed ≡ b
        → op_prepared c request ≡ op_ask.Authorize (judgement c (cond b (record (login_params client party state nonce) { request = Some (login_object client party c.provider.issuer state nonce) }) (login_params client party state nonce)) false) jar.first jar.second
    whole_at true is = signed is
    whole_at false is = plain is

    pub request_read_whole : op_prepared c request ≡ op_ask.Authorize (judgement c (whole_params client party c.provider state nonce) false) jar.first jar.second
    request_read_whole = whole_at party.signed refl

    pub request_followed_read : (from : ℕ) (browser : Word)
        → AsksProvider c from (reply_followed c from (PartyReply (rp.Ask (login_location client party c.provider state nonce) browser)) jar) (op_ask.Authorize (judgement c (whole_params client party c.provider state nonce) false) jar.first jar.second)
    unfolding followed
    request_followed_read from browser = record {
      request = request;
      is = ap (option_and_then (λ (l : Location). followed c from l jar)) (request_there browser);
      read = request_read_whole;
    }
