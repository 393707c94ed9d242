-- A request with a request object: its parameters outside the object, and in it (OpenID Connect Core 1.0, 6.1).
use Rattle.std.specs.Prelude.{◌≡◌, Some, None, is_some, IsTrue}
use Rattle.sso_base.specs.Words.{Text}
use Rattle.oidc_words.specs.Scopes.{openid_word}
use Rattle.request_params.specs.declared.params.Params.{Params}
use Rattle.request_params.specs.Names.{no_params}

-- outside the request object: the parameters that OAuth 2.0 and OpenID Connect require, and the object itself
abbrev pub outer_params : Params → Text → Params
outer_params params object = record no_params {
  response_type = params.response_type;
  client_id = params.client_id;
  redirect_uri = params.redirect_uri;
  scope = Some openid_word;
  request = Some object;
}

-- in the request object: all except what it must not contain, and `registration`
abbrev pub inner_params : Params → Params
inner_params params = record params { request = None; request_uri = None; registration = None }

-- a request that can be signed: it has a client, a response type and a scope, but no `request_uri` and no `registration`
pub record IsSignable (params : Params) : Type 0 where
  pub client : IsTrue (is_some params.client_id)
  pub response_type : IsTrue (is_some params.response_type)
  pub scope : IsTrue (is_some params.scope)
  pub no_request_uri : params.request_uri ≡ None
  pub no_registration : params.registration ≡ None
