-- A request is read as `Twice` if and only if it repeats a name, and as `NotHere` if and only if it is to no endpoint.
use Rattle.std.proofs.Common.{◌≡◌, ◌⊎◌, inl, inr, List, cond, Some, ◌∙◌, ap}
use Rattle.std.specs.Str.{bytes_eq}
use Rattle.sso_base.specs.Words.{Text, word_of_text}
use Rattle.sso_base.specs.declared.http.Ask.{Ask}
use Rattle.client_registry.specs.Configuration.{Configuration}
use Rattle.request_params.proofs.Requests.{refused-repeats, repeats-refused}
use Rattle.request_params.specs.Form.{form_of}
use Rattle.op_exchange.specs.declared.ask.OpAsk.TheVariants as ask
use Rattle.op_exchange.specs.Fields.{turn_field, user_field, password_field, agree_field, agree_value}
use Rattle.op_request.specs.declared.routes.Endpoint.{Endpoint}
use Rattle.op_request.specs.declared.routes.Endpoint.TheVariants as endpoint
use Rattle.op_request.specs.PostedForms.{login_names, consent_names, fields_of, field}
use Rattle.op_request.specs.Prepared.{signed_user, authorization_asked, prepared}
use Rattle.op_request.specs.Requests.{own_endpoint, IsTo, RepeatsField, RepeatsParameter, RepeatsAName}
use Rattle.op_request.proofs.FormFields.{one_repeats, repeats_some}
use Rattle.op_request.proofs.Routing.{to_asked, asked_to, prepared_at}
use Rattle.op_request.proofs.LedTo.{Unread, Refused, led_to, own_asked}

module _ (c : Configuration) (request : Ask) where
  parameter_twice : RepeatsParameter c request → prepared c request ≡ ask.Twice
  parameter_twice r =
      prepared_at c request endpoint.Authorization r.to
      ∙ ap (authorization_asked c request) (repeats-refused (form_of request.method request) r.name r.repeats)

  login_twice : RepeatsField c request endpoint.Login login_names → prepared c request ≡ ask.Twice
  login_twice r =
      prepared_at c request endpoint.Login r.to
      ∙ ap (λ b. cond b ask.Twice (ask.Login (word_of_text (field turn_field (fields_of request.body))) (signed_user c (field user_field (fields_of request.body)) (field password_field (fields_of request.body))) request.first request.second))
      (one_repeats login_names (fields_of request.body) r.repeats)

  consent_twice : RepeatsField c request endpoint.Consent consent_names → prepared c request ≡ ask.Twice
  consent_twice r =
      prepared_at c request endpoint.Consent r.to
      ∙ ap (λ b. cond b ask.Twice (ask.Consent (word_of_text (field turn_field (fields_of request.body))) (bytes_eq (field agree_field (fields_of request.body)) agree_value) request.first request.second))
      (one_repeats consent_names (fields_of request.body) r.repeats)

  pub repeated_twice : RepeatsAName c request → prepared c request ≡ ask.Twice
  repeated_twice (inl r) = parameter_twice r
  repeated_twice (inr (inl r)) = login_twice r
  repeated_twice (inr (inr r)) = consent_twice r

  unread_repeats : Unread c request → RepeatsParameter c request
  unread_repeats u =
      let r = refused-repeats (form_of request.method request) u.why u.refused in
      record { to = asked_to c request endpoint.Authorization u.asked; name = r.0; repeats = r.2 }

  refused_repeats : (e : Endpoint) (names : List Text) → Refused c request e names → RepeatsField c request e names
  refused_repeats e names r = record { to = asked_to c request e r.asked; repeats = repeats_some names (fields_of request.body) r.twice }

  twice_by : Unread c request ⊎ (Refused c request endpoint.Login login_names ⊎ Refused c request endpoint.Consent consent_names) → RepeatsAName c request
  twice_by (inl u) = inl (unread_repeats u)
  twice_by (inr (inl r)) = inr (inl (refused_repeats endpoint.Login login_names r))
  twice_by (inr (inr r)) = inr (inr (refused_repeats endpoint.Consent consent_names r))

  pub twice_repeats : prepared c request ≡ ask.Twice → RepeatsAName c request
  twice_repeats h = twice_by (led_to c request ask.Twice h)

  pub not_here_to_none : prepared c request ≡ ask.NotHere → (e : Endpoint) → ¬ IsTo c request e
  not_here_to_none h e = λ to. led_to c request ask.NotHere h e (to_asked c request e to)

  pub own_to : (e : Endpoint) → own_endpoint (prepared c request) ≡ Some e → IsTo c request e
  own_to e h = asked_to c request e (own_asked c request e h)
