-- The kinds of entries to which requests parse, and those to which the answers of a provider parse.
use Rattle.std.proofs.Common.{◌≡◌, ℕ, Bool, true, false, cond, List, [], ◌∷◌, Option, Some, None, option_and_then, Result, Ok, Err, inl, inr, refl, sym, ap, ◌∙◌}
use Rattle.std.specs.List.{AllByRecursion}
use Rattle.std.specs.Str.{bytes_eq}
use Rattle.sso_base.specs.Words.{Word, Text}
use Rattle.sso_base.specs.declared.http.Method.{Method}
use Rattle.sso_base.specs.declared.http.Method.TheVariants.{Get, Post, Other}
use Rattle.sso_base.specs.declared.http.Ask.{Ask}
use Rattle.sso_base.specs.declared.message.Answered.{Answered}
use Rattle.sso_base.proofs.RowLaws.{bool_cases}
use Rattle.oidc_words.specs.declared.response_types.Types.{Types}
use Rattle.client_registry.specs.declared.records.Client.{Client}
use Rattle.oidc_words.specs.Routes.{Route, endpoint_of}
use Rattle.client_registry.specs.Configuration.{Configuration}
use Rattle.client_registry.specs.declared.records.Party.{Party as PartyRow}
use Rattle.client_registry.specs.Numbers.{party_at, party_row, party_client}
use Rattle.id_token.specs.declared.claims.IdClaims.{IdClaims}
use Rattle.id_token.specs.declared.no.IdNo.{IdNo}
use Rattle.auth_answer.specs.declared.heard.Heard.{Heard}
use Rattle.auth_answer.specs.declared.no.AnswerNo.{AnswerNo}
use Rattle.auth_answer.specs.Reading.{answer_read}
use Rattle.token_endpoint.specs.declared.reading.Tokens.{Tokens as ComeTokens}
use Rattle.token_endpoint.specs.declared.no.TokensNo.{TokensNo}
use Rattle.token_endpoint.specs.Answer.{tokens_read}
use Rattle.userinfo.specs.declared.no.InfoNo.{InfoNo}
use Rattle.rp_exchange.specs.declared.ask.RpAsk.{RpAsk}
use Rattle.rp_exchange.specs.declared.ask.RpAsk.TheVariants as ask
use Rattle.rp_request.specs.Routes.{logout_routes, routes_of, endpoint_asked}
use Rattle.rp_request.specs.Prepared.{callback_asked, wants_page, redirected, asked_at, logout_path, prepared, tokens_asked, tokens_prepared, info_prepared}
use Rattle.sso_places.specs.declared.types.WorldAsk.{WorldAsk}
use Rattle.sso_places.specs.declared.types.WorldAsk.TheVariants.{Http, Tokens, Info}
use Rattle.sso_places.specs.Legal.{party_prepared}
use Rattle.request_params.specs.Form.{form_of}

-- the answer of a token endpoint, or of UserInfo
abbrev pub is_answer : RpAsk → Bool
is_answer (ask.Tokens pending came id) = true
is_answer (ask.Info pending came) = true
is_answer asked = false

-- ---- requests give none

heard_kind : (client : Client) (shown : Option Word) (r : Result Heard AnswerNo) → is_answer (callback_asked client shown r) ≡ false
heard_kind client shown (Ok heard) = refl
heard_kind client shown (Err why) = refl

redirected_kind : (client : Client) (types : Types) (request : Ask) → is_answer (redirected client types request) ≡ false
redirected_kind client types request =
    let C : RpAsk = callback_asked client request.first (answer_read (form_of request.method request)) in
    let F : Bool → Bool = λ b. is_answer (cond b ask.Fragment C) in
    elim (bool_cases (wants_page types request)) [ inl page ↦ ap F page | inr none ↦ ap F none ∙ heard_kind client request.first (answer_read (form_of request.method request)) ]

-- at a route
abbrev IsKind : {E : Type 0} → (Option E → RpAsk) → Route E → Type 0
IsKind asked route = is_answer (asked (Some route.1)) ≡ false

-- at every endpoint of the list, and at none
found_kind : {E : Type 0} (asked : Option E → RpAsk) (routes : List (Route E)) (path : Text)
    → is_answer (asked None) ≡ false → AllByRecursion (IsKind asked) routes → is_answer (asked (endpoint_of routes path)) ≡ false
found_kind asked [] path none all = none
found_kind asked (route ∷ routes) path none all =
    let F : Bool → Bool = λ b. is_answer (asked (cond b (Some route.1) (endpoint_of routes path))) in
    elim (bool_cases (bytes_eq path route.0)) [ inl this ↦ ap F this ∙ all.0 | inr other ↦ ap F other ∙ found_kind asked routes path none all.1 ]

logout_kinds : (client : Client) (types : Types) (request : Ask) (logout : Option Text) → AllByRecursion (IsKind (asked_at client types request)) (logout_routes logout)
logout_kinds client types request None = tt
logout_kinds client types request (Some path) = (refl, tt)

route_kinds : (client : Client) (types : Types) (request : Ask) (method : Method) (redirection : Text) (logout : Option Text) → AllByRecursion (IsKind (asked_at client types request)) (routes_of method redirection logout)
route_kinds client types request Get redirection logout = (refl, (refl, (redirected_kind client types request, tt)))
route_kinds client types request Post redirection logout = (redirected_kind client types request, (refl, logout_kinds client types request logout))
route_kinds client types request Other redirection logout = tt

party_kind : (c : Configuration) (client : Client) (types : Types) (request : Ask) (o : Option PartyRow)
    → is_answer (asked_at client types request (option_and_then (λ (party : PartyRow). endpoint_asked party.redirect_url.path (logout_path c party) request) o)) ≡ false
party_kind c client types request None = refl
party_kind c client types request (Some party) =
    let redirection : Text = party.redirect_url.path in
    let logout : Option Text = logout_path c party in
    found_kind (asked_at client types request) (routes_of request.method redirection logout) request.path refl (route_kinds client types request request.method redirection logout)

request_kind : (c : Configuration) (n : ℕ) (request : Ask) → is_answer (prepared c n request) ≡ false
unfolding prepared
request_kind c n request = party_kind c (party_client c n) (party_row c n).types request (party_at c n)

-- ---- answers are of their own kind, and have the word under which they come

read_kind : (client : Client) (w : Word) (r : Result ComeTokens TokensNo) → (came : Result ComeTokens TokensNo) × (id : Option (Result IdClaims IdNo)) × (tokens_asked client w r ≡ ask.Tokens w came id)
read_kind client w (Ok came) = (_, _, refl)
read_kind client w (Err why) = (_, _, refl)

tokens_kind : (c : Configuration) (n : ℕ) (w : Word) (answer : Answered) → (came : Result ComeTokens TokensNo) × (id : Option (Result IdClaims IdNo)) × (tokens_prepared c n w answer ≡ ask.Tokens w came id)
unfolding tokens_prepared
tokens_kind c n w answer = read_kind (party_client c n) w (tokens_read answer)

info_kind : (w : Word) (answer : Answered) → (came : Result Text InfoNo) × (info_prepared w answer ≡ ask.Info w came)
unfolding info_prepared
info_kind w answer = (_, refl)

-- ---- so an entry determines what came

-- any other ask came with a request
pub record IsRequest (c : Configuration) (n : ℕ) (came : WorldAsk) (asked : RpAsk) : Type 0 where
  pub request : Ask
  pub came_is : came ≡ Http request
  pub asked_is : prepared c n request ≡ asked

pub as_request : (c : Configuration) (n : ℕ) (came : WorldAsk) (asked : RpAsk) → asked ≡ party_prepared c n came → is_answer asked ≡ false → IsRequest c n came asked
as_request c n (Http request) asked is other = record { request = request; came_is = refl; asked_is = sym is }
as_request c n (Tokens w answer) asked is other =
    let kind = tokens_kind c n w answer in
    let never : true ≡ false = sym (ap is_answer (is ∙ kind.2)) ∙ other in
    absurd (cc)
as_request c n (Info w answer) asked is other =
    let kind = info_kind w answer in
    let never : true ≡ false = sym (ap is_answer (is ∙ kind.1)) ∙ other in
    absurd (cc)

pub record IsTokens (c : Configuration) (n : ℕ) (came : WorldAsk) (asked : RpAsk) (w : Word) : Type 0 where
  pub answer : Answered
  pub came_is : came ≡ Tokens w answer
  pub asked_is : tokens_prepared c n w answer ≡ asked

tokens_word : (v w : Word) (a b : Result ComeTokens TokensNo) (i j : Option (Result IdClaims IdNo)) → ask.Tokens v a i ≡ ask.Tokens w b j → v ≡ w
tokens_word v w a b i j same = cc

info_word : (v w : Word) (a b : Result Text InfoNo) → ask.Info v a ≡ ask.Info w b → v ≡ w
info_word v w a b same = cc

pub as_tokens : (c : Configuration) (n : ℕ) (came : WorldAsk) (w : Word) (read : Result ComeTokens TokensNo) (id : Option (Result IdClaims IdNo)) → ask.Tokens w read id ≡ party_prepared c n came → IsTokens c n came (ask.Tokens w read id) w
as_tokens c n (Http request) w read id is =
    let never : true ≡ false = ap is_answer is ∙ request_kind c n request in
    absurd (cc)
as_tokens c n (Tokens v answer) w read id is =
    let kind = tokens_kind c n v answer in
    let same : v ≡ w = sym (tokens_word w v read kind.0 id kind.1 (is ∙ kind.2)) in
    let T : Word → WorldAsk = λ u. Tokens u answer in
    let P : Word → RpAsk = λ u. tokens_prepared c n u answer in
    record { answer = answer; came_is = ap T same; asked_is = sym (ap P same) ∙ sym is }
as_tokens c n (Info v answer) w read id is =
    let kind = info_kind v answer in
    let never : ask.Tokens w read id ≡ ask.Info v kind.0 = is ∙ kind.1 in
    absurd (cc)

pub record IsInfo (c : Configuration) (n : ℕ) (came : WorldAsk) (w : Word) : Type 0 where
  pub answer : Answered
  pub came_is : came ≡ Info w answer

pub as_info : (c : Configuration) (n : ℕ) (came : WorldAsk) (w : Word) (read : Result Text InfoNo) → ask.Info w read ≡ party_prepared c n came → IsInfo c n came w
as_info c n (Http request) w read is =
    let never : true ≡ false = ap is_answer is ∙ request_kind c n request in
    absurd (cc)
as_info c n (Tokens v answer) w read is =
    let kind = tokens_kind c n v answer in
    let never : ask.Info w read ≡ ask.Tokens v kind.0 kind.1 = is ∙ kind.2 in
    absurd (cc)
as_info c n (Info v answer) w read is =
    let kind = info_kind v answer in
    let same : v ≡ w = sym (info_word w v read kind.0 (is ∙ kind.1)) in
    let I : Word → WorldAsk = λ u. Info u answer in
    record { answer = answer; came_is = ap I same }
