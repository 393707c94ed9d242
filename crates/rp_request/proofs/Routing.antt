-- Requests are told apart by their method and path.
use Rattle.std.proofs.Common.{◌≡◌, inl, inr, ℕ, List, [], ◌∷◌, Bool, true, false, cond, Option, Some, None, Result, Ok, Err, option_and_then, slice_get, refl, sym, ◌∙◌, ap}
use Rattle.std.specs.Prelude.{IfSome}
use Rattle.std.specs.Str.{bytes_eq}
use Rattle.std.proofs.lemmas.Slice.Eq.{bytes_eq-Decides}
use Rattle.sso_base.specs.Lists.{Has}
use Rattle.sso_base.specs.Words.{Text}
use Rattle.sso_base.specs.declared.http.Method.{Method}
use Rattle.sso_base.specs.declared.http.Method.TheVariants.{Get, Post, Other}
use Rattle.sso_base.specs.declared.http.Ask.{Ask}
use Rattle.client_registry.specs.declared.records.Client.{Client}
use Rattle.client_registry.specs.declared.records.Party.{Party}
use Rattle.client_registry.specs.Configuration.{Configuration}
use Rattle.client_registry.specs.Numbers.{party_row, party_client}
use Rattle.client_registry.specs.Registered.{IsRegistry}
use Rattle.auth_answer.specs.declared.heard.Heard.{Heard}
use Rattle.auth_answer.specs.declared.no.AnswerNo.{AnswerNo}
use Rattle.auth_answer.specs.Reading.{answer_read}
use Rattle.oidc_words.specs.declared.response_types.Types.{Types}
use Rattle.oidc_words.specs.Paths.{leave_path}
use Rattle.oidc_words.specs.Routes.{Route, endpoint_of}
use Rattle.oidc_words.proofs.Routing.{found_listed, AreFirst, listed_found}
use Rattle.sso_base.proofs.RowLaws.{bytes_turn}
use Rattle.rp_exchange.specs.declared.ask.RpAsk.{RpAsk}
use Rattle.rp_exchange.specs.declared.ask.RpAsk.TheVariants as ask
use Rattle.rp_request.specs.declared.routes.Endpoint.{Endpoint}
use Rattle.rp_request.specs.declared.routes.Endpoint.TheVariants as endpoint
use Rattle.rp_request.specs.Routes.{get_routes, post_routes, routes_of, endpoint_asked}
use Rattle.rp_request.specs.Prepared.{callback_asked, wants_page, redirected, asked_at, logout_path, endpoint_at, prepared}
use Rattle.rp_request.specs.Requests.{IsTo, own_endpoint, HasCookies}
use Rattle.rp_request.proofs.Parties.{HasOtherPath, redirects_elsewhere, IsApart, logs_out_elsewhere}
use Rattle.request_params.specs.Form.{form_of}

-- ---- the listed paths

text_same : (t : Text) → bytes_eq t t ≡ true
text_same t = (bytes_eq-Decides t t).1 refl

-- a path that is listed is one of some endpoint

cond_found : (b : Bool) (d : Endpoint) (o : Option Endpoint) → ¬ (o ≡ None) → ¬ (cond b (Some d) o ≡ None)
cond_found true d o later = λ h. cc
cond_found false d o later = later

first_found : (b : Bool) (d : Endpoint) (o : Option Endpoint) → b ≡ true → ¬ (cond b (Some d) o ≡ None)
first_found true d o is = λ h. cc
first_found false d o is = absurd (cc)

listed_some : (rs : List (Route Endpoint)) (p : Route Endpoint) → Has rs p → ¬ (endpoint_of rs p.0 ≡ None)
listed_some [] p h = absurd h
listed_some (r ∷ rs) p (inl is) =
    first_found (bytes_eq p.0 r.0) r.1 (endpoint_of rs p.0) (ap (λ (q : Route Endpoint). bytes_eq p.0 q.0) is ∙ text_same p.0)
listed_some (r ∷ rs) p (inr later) = cond_found (bytes_eq p.0 r.0) r.1 (endpoint_of rs p.0) (listed_some rs p later)

got_first : (party : Party) → HasOtherPath party → AreFirst (get_routes party.redirect_url.path) (get_routes party.redirect_url.path)
got_first party other = (refl, (refl, (rw (other.login, other.home, text_same party.redirect_url.path) refl, tt)))

-- `/leave` is not the path of the redirection URI
leave_apart : (party : Party) → HasOtherPath party → bytes_eq leave_path party.redirect_url.path ≡ false
leave_apart party other = bytes_turn party.redirect_url.path leave_path other.leave

posted_first : (party : Party) (logout : Option Text) → HasOtherPath party → IfSome logout (IsApart party) → AreFirst (post_routes party.redirect_url.path logout) (post_routes party.redirect_url.path logout)
posted_first party None other apart = (rw (text_same party.redirect_url.path) refl, (rw (leave_apart party other) refl, tt))
posted_first party (Some path) other apart =
    (rw (text_same party.redirect_url.path) refl, (rw (leave_apart party other) refl, (rw (apart.redirect, apart.leave, text_same path) refl, tt)))

found : (m : Method) (party : Party) (logout : Option Text) → HasOtherPath party → IfSome logout (IsApart party) → (p : Route Endpoint) → Has (routes_of m party.redirect_url.path logout) p
    → endpoint_of (routes_of m party.redirect_url.path logout) p.0 ≡ Some p.1
found Get party logout other apart p h = listed_found (get_routes party.redirect_url.path) (get_routes party.redirect_url.path) (got_first party other) p h
found Post party logout other apart p h = listed_found (post_routes party.redirect_url.path logout) (post_routes party.redirect_url.path logout) (posted_first party logout other apart) p h
found Other party logout other apart p h = absurd h

-- ---- the endpoint of a request

module _ (c : Configuration) (n : ℕ) (request : Ask) where
  at_party : (party : Party) → slice_get c.parties n ≡ Some party → endpoint_at c n request ≡ endpoint_asked party.redirect_url.path (logout_path c party) request
  at_party party there = ap (option_and_then (λ (p : Party). endpoint_asked p.redirect_url.path (logout_path c p) request)) there

  pub to_asked : (e : Endpoint) → IsRegistry c → IsTo c n request e → endpoint_at c n request ≡ Some e
  to_asked e r to =
      at_party to.party to.there
      ∙ found request.method to.party (logout_path c to.party) (redirects_elsewhere c n to.party r to.there) (logs_out_elsewhere c n to.party r to.there) (request.path, e) to.listed

  to_some : (e : Endpoint) → IsTo c n request e → ¬ (endpoint_at c n request ≡ None)
  to_some e to = λ none. listed_some (routes_of request.method to.party.redirect_url.path (logout_path c to.party)) (request.path, e) to.listed (sym (at_party to.party to.there) ∙ none)

  asked_by : (o : Option Party) (e : Endpoint) → slice_get c.parties n ≡ o → option_and_then (λ (p : Party). endpoint_asked p.redirect_url.path (logout_path c p) request) o ≡ Some e → IsTo c n request e
  asked_by None e is h = absurd (cc)
  asked_by (Some party) e is h =
      record { party = party; there = is; listed = found_listed (routes_of request.method party.redirect_url.path (logout_path c party)) request.path e h }

  pub asked_to : (e : Endpoint) → endpoint_at c n request ≡ Some e → IsTo c n request e
  asked_to e h = asked_by (slice_get c.parties n) e refl h

  pub prepared_at : (e : Endpoint) → IsRegistry c → IsTo c n request e → prepared c n request ≡ asked_at (party_client c n) (party_row c n).types request (Some e)
  unfolding prepared
  prepared_at e r to = ap (asked_at (party_client c n) (party_row c n).types request) (to_asked e r to)

  -- ---- the redirection URI: the page, or a response

  page_or : (client : Client) (types : Types) (page : Bool) → wants_page types request ≡ page
      → redirected client types request ≡ cond page ask.Fragment (callback_asked client request.first (answer_read (form_of request.method request)))
  page_or client types page is =
      let P : Bool → RpAsk = λ b. cond b ask.Fragment (callback_asked client request.first (answer_read (form_of request.method request))) in
      ap P is

  pub page_asked : IsRegistry c → IsTo c n request endpoint.Redirection → wants_page (party_row c n).types request ≡ true → prepared c n request ≡ ask.Fragment
  page_asked r to is = prepared_at endpoint.Redirection r to ∙ page_or (party_client c n) (party_row c n).types true is

  pub response_asked : IsRegistry c → IsTo c n request endpoint.Redirection → wants_page (party_row c n).types request ≡ false
      → prepared c n request ≡ callback_asked (party_client c n) request.first (answer_read (form_of request.method request))
  response_asked r to is = prepared_at endpoint.Redirection r to ∙ page_or (party_client c n) (party_row c n).types false is

  no_page_heard : (client : Client) (r : Result Heard AnswerNo) → ¬ (callback_asked client request.first r ≡ ask.Fragment)
  no_page_heard client (Ok heard) = λ h. cc
  no_page_heard client (Err why) = λ h. cc

  page_by : (client : Client) (r : Result Heard AnswerNo) (page : Bool) → cond page ask.Fragment (callback_asked client request.first r) ≡ ask.Fragment → page ≡ true
  page_by client r true h = refl
  page_by client r false h = absurd (no_page_heard client r h)

  page_at : (o : Option Endpoint) → endpoint_at c n request ≡ o → asked_at (party_client c n) (party_row c n).types request o ≡ ask.Fragment
      → IsTo c n request endpoint.Redirection × (wants_page (party_row c n).types request ≡ true)
  page_at None is h = absurd (cc)
  page_at (Some endpoint.Login) is h = absurd (cc)
  page_at (Some endpoint.Home) is h = absurd (cc)
  page_at (Some endpoint.Leave) is h = absurd (cc)
  page_at (Some endpoint.Logout) is h = absurd (cc)
  page_at (Some endpoint.Redirection) is h =
      (asked_to endpoint.Redirection is, page_by (party_client c n) (answer_read (form_of request.method request)) (wants_page (party_row c n).types request) h)

  pub page_wanted : prepared c n request ≡ ask.Fragment → IsTo c n request endpoint.Redirection × (wants_page (party_row c n).types request ≡ true)
  unfolding prepared
  page_wanted h = page_at (endpoint_at c n request) refl h

  -- ---- no endpoint

  nowhere : (o : Option Endpoint) → endpoint_at c n request ≡ o → ((e : Endpoint) → ¬ IsTo c n request e) → asked_at (party_client c n) (party_row c n).types request o ≡ ask.NotHere
  nowhere None is none = refl
  nowhere (Some e) is none = absurd (none e (asked_to e is))

  pub not_here : ((e : Endpoint) → ¬ IsTo c n request e) → prepared c n request ≡ ask.NotHere
  unfolding prepared
  not_here none = nowhere (endpoint_at c n request) refl none

  one_of : (page : Bool) (asked : RpAsk) → ¬ (asked ≡ ask.NotHere) → ¬ (cond page ask.Fragment asked ≡ ask.NotHere)
  one_of true asked other = λ h. cc
  one_of false asked other = other

  heard_somewhere : (client : Client) (r : Result Heard AnswerNo) → ¬ (callback_asked client request.first r ≡ ask.NotHere)
  heard_somewhere client (Ok heard) = λ h. cc
  heard_somewhere client (Err why) = λ h. cc

  redirected_somewhere : (client : Client) (types : Types) → ¬ (redirected client types request ≡ ask.NotHere)
  redirected_somewhere client types = one_of (wants_page types request) (callback_asked client request.first (answer_read (form_of request.method request))) (heard_somewhere client (answer_read (form_of request.method request)))

  none_at : (o : Option Endpoint) → asked_at (party_client c n) (party_row c n).types request o ≡ ask.NotHere → o ≡ None
  none_at None h = refl
  none_at (Some endpoint.Login) h = absurd (cc)
  none_at (Some endpoint.Home) h = absurd (cc)
  none_at (Some endpoint.Redirection) h = absurd (redirected_somewhere (party_client c n) (party_row c n).types h)
  none_at (Some endpoint.Leave) h = absurd (cc)
  none_at (Some endpoint.Logout) h = absurd (cc)

  pub not_here_to_none : prepared c n request ≡ ask.NotHere → (e : Endpoint) → ¬ IsTo c n request e
  unfolding prepared
  not_here_to_none h e = λ to. to_some e to (none_at (endpoint_at c n request) h)

  -- ---- the endpoint of an ask

  heard_own : (client : Client) (r : Result Heard AnswerNo) (e : Endpoint) → own_endpoint (callback_asked client request.first r) ≡ Some e → Some endpoint.Redirection ≡ Some e
  heard_own client (Ok heard) e h = h
  heard_own client (Err why) e h = h

  redirected_own : (page : Bool) (client : Client) (r : Result Heard AnswerNo) (e : Endpoint) → own_endpoint (cond page ask.Fragment (callback_asked client request.first r)) ≡ Some e
      → Some endpoint.Redirection ≡ Some e
  redirected_own true client r e h = h
  redirected_own false client r e h = heard_own client r e h

  own_at : (o : Option Endpoint) (e : Endpoint) → own_endpoint (asked_at (party_client c n) (party_row c n).types request o) ≡ Some e → o ≡ Some e
  own_at None e h = absurd (cc)
  own_at (Some endpoint.Login) e h = h
  own_at (Some endpoint.Home) e h = h
  own_at (Some endpoint.Redirection) e h = redirected_own (wants_page (party_row c n).types request) (party_client c n) (answer_read (form_of request.method request)) e h
  own_at (Some endpoint.Leave) e h = h
  own_at (Some endpoint.Logout) e h = h

  pub own_to : (e : Endpoint) → own_endpoint (prepared c n request) ≡ Some e → IsTo c n request e
  unfolding prepared
  own_to e h = asked_to e (own_at (endpoint_at c n request) e h)

  -- ---- cookies

  heard_cookies : (client : Client) (r : Result Heard AnswerNo) → HasCookies request (callback_asked client request.first r)
  heard_cookies client (Ok heard) = refl
  heard_cookies client (Err why) = refl

  redirected_cookies : (page : Bool) (client : Client) (r : Result Heard AnswerNo) → HasCookies request (cond page ask.Fragment (callback_asked client request.first r))
  redirected_cookies true client r = tt
  redirected_cookies false client r = heard_cookies client r

  cookies_at : (o : Option Endpoint) → HasCookies request (asked_at (party_client c n) (party_row c n).types request o)
  cookies_at None = tt
  cookies_at (Some endpoint.Login) = refl
  cookies_at (Some endpoint.Home) = refl
  cookies_at (Some endpoint.Redirection) = redirected_cookies (wants_page (party_row c n).types request) (party_client c n) (answer_read (form_of request.method request))
  cookies_at (Some endpoint.Leave) = refl
  cookies_at (Some endpoint.Logout) = tt

  pub has_cookies : HasCookies request (prepared c n request)
  unfolding prepared
  has_cookies = cookies_at (endpoint_at c n request)
