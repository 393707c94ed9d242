-- The request in an HTTP request (RP-Initiated Logout 1.0, 2).
use Rattle.std.specs.Prelude.{false, List, [], ◌∷◌, Option, Some, None, option_and_then, if◌then◌else◌}
use Rattle.std.specs.Str.{bytes_eq}
use Rattle.sso_base.specs.Words.{Text, word_of_text}
use Rattle.sso_base.specs.declared.http.Ask.{Ask}
use Rattle.sso_base.specs.declared.http.Method.{Method}
use Rattle.sso_base.specs.declared.http.Method.TheVariants.{Get, Post, Other}
use Rattle.client_registry.specs.Configuration.{Configuration}
use Rattle.request_params.specs.Form.{Pair, form_of}
use Rattle.op_exchange.specs.Fields.{agree_field, agree_value}
use Rattle.op_exchange.specs.declared.ask.OpAsk.{OpAsk}
use Rattle.op_exchange.specs.declared.ask.OpAsk.TheVariants.{SignOut}
use Rattle.op_request.specs.Routes.{below}
use Rattle.op_request.specs.PostedForms.{fields_of, repeats_one, field}
use Rattle.signout_answer.specs.declared.asks.EndAsk.{EndAsk}
use Rattle.signout_answer.specs.declared.asks.EndAsk.TheVariants as ask
use Rattle.rp_signout.specs.declared.routes.Route.{Route}
use Rattle.rp_signout.specs.declared.routes.Route.TheVariants.{Start, Confirm}
use Rattle.rp_signout.specs.Pages.{end_path, confirm_path, word_field}

-- ---- the path

abbrev pub get_route : Text → Option Route
get_route path = if bytes_eq path end_path then Some Start else None

abbrev pub post_route : Text → Option Route
post_route path = if bytes_eq path end_path then Some Start else if bytes_eq path confirm_path then Some Confirm else None

abbrev pub route_of : Method → Text → Option Route
route_of Get path = get_route path
route_of Post path = post_route path
route_of Other path = None

-- the route of a request, if the provider's paths are below this prefix
abbrev pub route_asked : Text → Ask → Option Route
route_asked prefix request = option_and_then (route_of request.method) (below prefix request.path)

-- ---- the form of the page

abbrev pub confirm_names : List Text
confirm_names = word_field ∷ agree_field ∷ []

-- a form in which a name occurs twice has no word
abbrev pub confirm_asked : {A : Type 0} → (OpAsk → A) → Ask → List Pair → EndAsk A
confirm_asked from_op request fields =
    if repeats_one confirm_names fields then ask.Confirm None false request.second (from_op (SignOut request.second))
    else
    ask.Confirm (word_of_text (field word_field fields)) (bytes_eq (field agree_field fields) agree_value) request.second
    (from_op (SignOut request.second))

-- ---- any request

abbrev pub end_asked : {A : Type 0} → (Configuration → Ask → A) → (OpAsk → A) → Configuration → Ask → Option Route → EndAsk A
end_asked prepared from_op c request None = ask.Through (prepared c request)
end_asked prepared from_op c request (Some Start) = ask.Start (form_of request.method request) request.second
end_asked prepared from_op c request (Some Confirm) = confirm_asked from_op request (fields_of request.body)

-- a request for the inner core
abbrev pub alone : {A : Type 0} → A → EndAsk A
alone inner = ask.Through inner
