-- The authorization request with which a relying party begins a login (OpenID Connect Core 1.0, 3.1.2.1, 3.2.2.1, 3.3.2.1 and
-- 6.1).
use Rattle.std.specs.Prelude.{Some, None, option_map, decimal, if◌then◌else◌}
use Rattle.sso_base.specs.Words.{Word, Text, word_text}
use Rattle.oidc_words.specs.Scopes.{openid_word}
use Rattle.oidc_words.specs.Types.{types_text}
use Rattle.client_registry.specs.declared.records.Client.{Client}
use Rattle.client_registry.specs.declared.records.Party.{Party}
use Rattle.client_registry.specs.declared.records.Provider.{Provider}
use Rattle.request_params.specs.declared.params.Params.{Params}
use Rattle.request_params.specs.Printing.{request_location}
use Rattle.request_object.specs.Request.{request_text}

-- ---- the parameters

-- the parameters of a login with this state and nonce
abbrev pub login_params : Client → Party → Word → Word → Params
login_params client party state nonce =
    record {
      response_type = Some (types_text party.types);
      client_id = Some client.id;
      redirect_uri = Some party.redirect;
      scope = Some party.scope;
      state = Some (word_text state);
      nonce = Some (word_text nonce);
      response_mode = None;
      prompt = party.prompt;
      max_age = option_map decimal party.max_age;
      claims = None;
      request = None;
      request_uri = None;
      registration = None;
    }

-- the parameters outside a request object, where OAuth 2.0 and OpenID Connect require them (Core 6.1)
abbrev pub outer_params : Client → Party → Text → Params
outer_params client party request =
    record {
      response_type = Some (types_text party.types);
      client_id = Some client.id;
      redirect_uri = Some party.redirect;
      scope = Some openid_word;
      state = None;
      nonce = None;
      response_mode = None;
      prompt = None;
      max_age = None;
      claims = None;
      request = Some request;
      request_uri = None;
      registration = None;
    }

-- the request object of a login: its parameters, sealed under the secret that the client seals with, for this issuer (Core 6.1)
abbrev pub login_object : Client → Party → Text → Word → Word → Text
login_object client party issuer state nonce = request_text client issuer (login_params client party state nonce)

-- a party whose requests are signed sends a request object
abbrev pub sent_params : Client → Party → Provider → Word → Word → Params
sent_params client party provider state nonce =
    if party.signed
    then outer_params client party (login_object client party provider.issuer state nonce)
    else login_params client party state nonce

-- the location to which the browser is sent
unfoldable pub login_location : Client → Party → Provider → Word → Word → Text
login_location client party provider state nonce = request_location provider.authorize (sent_params client party provider state nonce)
