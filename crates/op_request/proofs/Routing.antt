-- Requests are told apart by their method and path.
use Rattle.std.proofs.Common.{◌≡◌, ◌++◌, length, take, drop, Bool, true, false, cond, Option, Some, None, option_and_then, refl, sym, ◌∙◌, ap}
use Rattle.std.specs.Str.{bytes_eq}
use Rattle.std.proofs.lemmas.List.{take-append-drop}
use Rattle.std.proofs.Math.Seq.{take-append_seam, drop-append_seam}
use Rattle.sso_base.specs.Lists.{Has}
use Rattle.sso_base.specs.Words.{Text}
use Rattle.sso_base.specs.declared.http.Method.{Method}
use Rattle.sso_base.specs.declared.http.Method.TheVariants.{Get, Post, Other}
use Rattle.sso_base.specs.declared.http.Ask.{Ask}
use Rattle.oidc_words.specs.Routes.{Route, endpoint_of}
use Rattle.oidc_words.proofs.Routing.{found_listed, listed_found}
use Rattle.client_registry.specs.Configuration.{Configuration}
use Rattle.request_params.proofs.NameLaws.{same_text, text_same}
use Rattle.op_exchange.specs.declared.ask.OpAsk.TheVariants.{NotHere}
use Rattle.op_request.specs.declared.routes.Endpoint.{Endpoint}
use Rattle.op_request.specs.Routes.{below, get_routes, post_routes, routes_of, endpoint_asked}
use Rattle.op_request.specs.Prepared.{asked_at, prepared}
use Rattle.op_request.specs.Requests.{IsTo}

-- ---- what follows a prefix

one_text : (s t : Text) → Some s ≡ Some t → s ≡ t
one_text s t h = cc

below_at : (prefix path rest : Text) (b : Bool) → bytes_eq (take (length prefix) path) prefix ≡ b → cond b (Some (drop (length prefix) path)) None ≡ Some rest → path ≡ prefix ++ rest
below_at prefix path rest true is h =
    let front : take (length prefix) path ≡ prefix = same_text (take (length prefix) path) prefix is in
    let back : drop (length prefix) path ≡ rest = one_text (drop (length prefix) path) rest h in
    sym (take-append-drop (length prefix) path) ∙ ap (λ t. t ++ drop (length prefix) path) front ∙ ap (λ t. prefix ++ t) back
below_at prefix path rest false is h = absurd (cc)

pub below_is : (prefix path rest : Text) → below prefix path ≡ Some rest → path ≡ prefix ++ rest
below_is prefix path rest h = below_at prefix path rest (bytes_eq (take (length prefix) path) prefix) refl h

pub below_front : (prefix rest : Text) → below prefix (prefix ++ rest) ≡ Some rest
below_front prefix rest =
    let front : bytes_eq (take (length prefix) (prefix ++ rest)) prefix ≡ true = text_same (take (length prefix) (prefix ++ rest)) prefix (take-append_seam prefix rest) in
    ap (λ b. cond b (Some (drop (length prefix) (prefix ++ rest))) None) front ∙ ap Some (drop-append_seam prefix rest)

-- ---- the listed paths

found : (m : Method) (p : Route Endpoint) → Has (routes_of m) p → endpoint_of (routes_of m) p.0 ≡ Some p.1
found Get p h = listed_found get_routes get_routes (refl, (refl, (refl, (refl, tt)))) p h
found Post p h = listed_found post_routes post_routes (refl, (refl, (refl, (refl, (refl, (refl, tt)))))) p h
found Other p h = absurd h

-- ---- the endpoint of a request

pub to_asked : (c : Configuration) (request : Ask) (e : Endpoint) → IsTo c request e → endpoint_asked c.prefix request ≡ Some e
to_asked c request e t =
    ap (option_and_then (endpoint_of (routes_of request.method))) (ap (below c.prefix) t.path ∙ below_front c.prefix t.rest)
    ∙ found request.method (t.rest, e) t.listed

asked_below : (c : Configuration) (request : Ask) (e : Endpoint) (o : Option Text) → below c.prefix request.path ≡ o
    → option_and_then (endpoint_of (routes_of request.method)) o ≡ Some e → IsTo c request e
asked_below c request e None is h = absurd (cc)
asked_below c request e (Some rest) is h =
    record { rest = rest; path = below_is c.prefix request.path rest is; listed = found_listed (routes_of request.method) rest e h }

pub asked_to : (c : Configuration) (request : Ask) (e : Endpoint) → endpoint_asked c.prefix request ≡ Some e → IsTo c request e
asked_to c request e h = asked_below c request e (below c.prefix request.path) refl h

pub prepared_at : (c : Configuration) (request : Ask) (e : Endpoint) → IsTo c request e → prepared c request ≡ asked_at c request (Some e)
unfolding prepared
prepared_at c request e t = ap (asked_at c request) (to_asked c request e t)

nowhere : (c : Configuration) (request : Ask) (o : Option Endpoint) → endpoint_asked c.prefix request ≡ o → ((e : Endpoint) → ¬ IsTo c request e) → asked_at c request o ≡ NotHere
nowhere c request None is none = refl
nowhere c request (Some e) is none = absurd (none e (asked_to c request e is))

pub not_here : (c : Configuration) (request : Ask) → ((e : Endpoint) → ¬ IsTo c request e) → prepared c request ≡ NotHere
unfolding prepared
not_here c request none = nowhere c request (endpoint_asked c.prefix request) refl none
