-- The party reads a followed answer or refusal as it was given.
use Rattle.std.proofs.Common.{◌≡◌, ◌<◌, ◌==◌, ◌||◌, ℕ, suc, List, [], ◌∷◌, length, Bool, true, false, filter, map, Option, Some, None, is_some, option_map, option_and_then, Result, Ok, refl, sym, ap, ◌∙◌, subst, inl, inr, arith}
use Rattle.std.proofs.lemmas.Bool.Decides.{nat_tests}
use Rattle.std.specs.Prelude.{IfSome}
use Rattle.std.specs.Str.{IsUtf8}
use Rattle.sso_base.specs.Words.{Word, Text, word_of_text, word_text}
use Rattle.sso_base.specs.declared.http.Ask.{Ask}
use Rattle.registered_url.specs.declared.web_url.WebUrl.{WebUrl}
use Rattle.configuration_rows.specs.Rows.{has_answer_name}
use Rattle.oidc_words.specs.declared.errors.AuthError.{AuthError}
use Rattle.oidc_words.specs.declared.errors.Refusal.{Refusal}
use Rattle.client_registry.specs.declared.records.Party.{Party}
use Rattle.client_registry.specs.Configuration.{Configuration}
use Rattle.client_registry.specs.Numbers.{party_row, party_client, no_party}
use Rattle.client_registry.specs.Registered.{IsRegistry}
use Rattle.form_urlencoded.proofs.FormLemmas.{raw_pairs-nil}
use Rattle.request_params.specs.Form.{pair_of, form_pairs, form_of}
use Rattle.auth_answer.specs.declared.answer.Answer.{Answer}
use Rattle.auth_answer.specs.declared.heard.Heard.{Heard}
use Rattle.auth_answer.specs.declared.no.AnswerNo.{AnswerNo}
use Rattle.auth_answer.specs.Printing.{answer_form, refusal_form}
use Rattle.auth_answer.specs.Reading.{names_part, pairs_read, answer_read}
use Rattle.auth_answer.specs.Sent.{answer_heard, refusal_heard}
use Rattle.auth_answer.proofs.OwnQueries.{own_query_ignored}
use Rattle.auth_answer.proofs.Written.{answer_any_state, refusal_any_state}
use Rattle.login_request.proofs.PartyRows.{KeepRules, rows_keep_rules}
use Rattle.op_exchange.specs.declared.reply.OpReply.TheVariants as op
use Rattle.rp_exchange.specs.declared.ask.RpAsk.TheVariants as rp_ask
use Rattle.rp_request.specs.Opened.{id_read_for}
use Rattle.rp_request.specs.Prepared.{callback_asked, wants_page, prepared as rp_prepared}
use Rattle.rp_request.proofs.Routing.{response_asked}
use Rattle.sso_places.specs.declared.types.Jar.{Jar}
use Rattle.sso_places.specs.declared.types.To.TheVariants as to
use Rattle.sso_places.specs.declared.types.WorldReply.TheVariants.{Provider as ProviderReply}
use Rattle.web_requests.specs.declared.location.Location.{Location}
use Rattle.web_requests.specs.Sending.{sent}
use Rattle.web_requests.specs.Locations.{behind, registered_query, location_at, location_of}
use Rattle.web_requests.specs.Following.{response_ask, followed, reply_followed}
use Rattle.web_requests.specs.Asked.{AsksParty, has_part}
use Rattle.web_requests.proofs.RegistryRows.{some_row, party_found, query_found}

-- ---- what is registered in the query changes nothing

own_query : (o : Option Text) (form : List ℕ) (url : WebUrl) → url.query ≡ o → has_answer_name url ≡ false → answer_read (behind o form) ≡ answer_read form
own_query None form url is none = refl
own_query (Some query) form url is none =
    let N : Option Text → Bool = λ o. has_answer_name (record url { query = o }) in
    own_query_ignored query form (sym (ap N is) ∙ none)

-- ---- the request

not_zero : (n : ℕ) → (suc n == 0) ≡ false
not_zero n = grind (arith, nat_tests)

not_none : (t : List ℕ) → ¬ (t ≡ []) → (length t == 0) ≡ false
not_none [] some = absurd (some refl)
not_none (b ∷ t) some = not_zero (length t)

module _ (c : Configuration) (n : ℕ) (r : IsRegistry c) (low : n < length c.parties) where
  abbrev party : Party
  party = party_row c n

  rules : KeepRules party (party_client c n)
  rules = rows_keep_rules c n r low

  abbrev form_at : Bool → List ℕ → List ℕ
  form_at true form = form
  form_at false form = behind (registered_query c party.redirect) form

  abbrev request : Bool → List ℕ → Jar → Ask
  request fragment form jar = response_ask party.redirect_url.path fragment (form_at fragment form) jar

  filled : (o : Option Text) (form : List ℕ) → ¬ (form ≡ []) → ¬ (behind o form ≡ [])
  filled None form some = some
  filled (Some []) form some = λ h. cc
  filled (Some (b ∷ query)) form some = λ h. cc

  no_page : (fragment : Bool) (form : List ℕ) (jar : Jar) → ¬ (form ≡ []) → wants_page party.types (request fragment form jar) ≡ false
  no_page true form jar some = refl
  no_page false form jar some = rw (not_none (behind (registered_query c party.redirect) form) (filled (registered_query c party.redirect) form some)) refl

  read_there : (fragment : Bool) (form : List ℕ) (jar : Jar) → answer_read (form_of (request fragment form jar).method (request fragment form jar)) ≡ answer_read form
  read_there true form jar = refl
  read_there false form jar = own_query (registered_query c party.redirect) form party.redirect_url (sym (query_found c n r low)) rules.party_rules.names

  first_there : (fragment : Bool) (form : List ℕ) (jar : Jar) → (request fragment form jar).first ≡ jar.first
  first_there true form jar = refl
  first_there false form jar = refl

  response_there : (fragment : Bool) (form : List ℕ) (jar : Jar) → ¬ (form ≡ [])
      → rp_prepared c n (request fragment form jar) ≡ callback_asked (party_client c n) (request fragment form jar).first (answer_read (form_of (request fragment form jar).method (request fragment form jar)))
  response_there true form jar some =
      response_asked c n (request true form jar) r (record { party = party; there = some_row c.parties n no_party low; listed = inl refl }) (no_page true form jar some)
  response_there false form jar some =
      response_asked c n (request false form jar) r (record { party = party; there = some_row c.parties n no_party low; listed = inr (inr (inl refl)) }) (no_page false form jar some)

  response_read : (fragment : Bool) (form : List ℕ) (jar : Jar) → ¬ (form ≡ []) → rp_prepared c n (request fragment form jar) ≡ callback_asked (party_client c n) jar.first (answer_read form)
  response_read fragment form jar some =
      response_there fragment form jar some
      ∙ ap (λ o. callback_asked (party_client c n) o (answer_read (form_of (request fragment form jar).method (request fragment form jar)))) (first_there fragment form jar)
      ∙ ap (callback_asked (party_client c n) jar.first) (read_there fragment form jar)

  -- ---- the location

  location_is : (fragment : Bool) (form : List ℕ) → (from : ℕ) (jar : Jar) → followed c from (location_at c party.redirect fragment form) jar ≡ Some (sent from (to.Party n) (request fragment form jar))
  unfolding followed
  location_is true form from jar = ap (option_map (λ k. sent from (to.Party k) (response_ask (party_row c k).redirect_url.path true form jar))) (party_found c n r low)
  location_is false form from jar =
      ap (option_map (λ k. sent from (to.Party k) (response_ask (party_row c k).redirect_url.path false (behind (registered_query c party.redirect) form) jar))) (party_found c n r low)

  pub response_followed : (fragment : Bool) (form : List ℕ) (from : ℕ) (jar : Jar) (o : Option Location) → o ≡ Some (location_at c party.redirect fragment form) → ¬ (form ≡ [])
      → AsksParty c from n (option_and_then (λ (l : Location). followed c from l jar) o) (callback_asked (party_client c n) jar.first (answer_read form))
  response_followed fragment form from jar o is some = record {
    request = request fragment form jar;
    is = ap (option_and_then (λ (l : Location). followed c from l jar)) is ∙ location_is fragment form from jar;
    read = response_read fragment form jar some;
  }

-- ---- what was given has a form

nothing_heard : answer_read [] ≡ Ok (record { state = None; error = None; code = None; access = None; id = None })
unfolding answer_read form_pairs
nothing_heard = ap (λ (ps : List (List ℕ × List ℕ)). pairs_read (filter names_part (map pair_of ps))) raw_pairs-nil

same_heard : (x y : Heard) → ◌≡◌ {A = Result Heard AnswerNo} (Ok x) (Ok y) → x ≡ y
same_heard x y h = cc

-- an empty form has no part
unheard : (form : List ℕ) (heard : Heard) → answer_read form ≡ Ok heard → form ≡ [] → heard ≡ record { state = None; error = None; code = None; access = None; id = None }
unheard form heard read empty = same_heard heard _ (sym read ∙ ap answer_read empty ∙ nothing_heard)

none_mapped : {A B : Type 0} (f : A → B) (o : Option A) → option_map f o ≡ None → is_some o ≡ false
none_mapped f None h = refl
none_mapped f (Some a) h = absurd (cc)

none_some : {A : Type 0} (o : Option A) → o ≡ None → is_some o ≡ false
none_some None h = refl
none_some (Some a) h = absurd (cc)

never_parts : (a b d : Bool) → a ≡ false → b ≡ false → d ≡ false → (a || b || d) ≡ true → ⊥
never_parts true b d h i j k = cc
never_parts false true d h i j k = cc
never_parts false false true h i j k = cc
never_parts false false false h i j k = cc

answer_filled : (a : Answer) → IfSome a.state IsUtf8 → IfSome a.id IsUtf8 → has_part a ≡ true → ¬ (answer_form a ≡ [])
answer_filled a state id some empty =
    let none = unheard (answer_form a) (answer_heard a (option_and_then word_of_text a.state)) (answer_any_state a state id) empty in
    never_parts (is_some a.code) (is_some a.access) (is_some a.id) (none_mapped word_text a.code (ap (λ (h : Heard). h.code) none)) (none_mapped word_text a.access (ap (λ (h : Heard). h.access) none))
    (none_some a.id (ap (λ (h : Heard). h.id) none)) some

never_error : (code : AuthError) → Some code ≡ None → ⊥
never_error code h = cc

refusal_filled : (f : Refusal) → IfSome f.state IsUtf8 → ¬ (refusal_form f ≡ [])
refusal_filled f state empty =
    let none = unheard (refusal_form f) (refusal_heard f (option_and_then word_of_text f.state)) (refusal_any_state f state) empty in
    never_error f.code (ap (λ (h : Heard). h.error) none)

-- ---- the laws

module _ (c : Configuration) (n : ℕ) (r : IsRegistry c) (low : n < length c.parties) (from : ℕ) (given : Option Word) (jar : Jar) where
  answer_there : (answer : Answer) → (party_row c n).redirect ≡ answer.redirect
      → location_of c (ProviderReply (op.Answered answer given)) ≡ Some (location_at c (party_row c n).redirect answer.fragment (answer_form answer))
  unfolding location_of
  answer_there answer is = ap (λ uri. Some (location_at c uri answer.fragment (answer_form answer))) (sym is)

  pub answer_followed_read : (answer : Answer) → (party_row c n).redirect ≡ answer.redirect → has_part answer ≡ true → IfSome answer.state IsUtf8 → IfSome answer.id IsUtf8
      → AsksParty c from n (reply_followed c from (ProviderReply (op.Answered answer given)) jar)
      (rp_ask.Callback (Ok (answer_heard answer (option_and_then word_of_text answer.state))) (option_map (id_read_for (party_client c n)) answer.id) jar.first)
  answer_followed_read answer is some state id =
      subst (AsksParty c from n (reply_followed c from (ProviderReply (op.Answered answer given)) jar)) (ap (callback_asked (party_client c n) jar.first) (answer_any_state answer state id))
      (response_followed c n r low answer.fragment (answer_form answer) from jar (location_of c (ProviderReply (op.Answered answer given))) (answer_there answer is) (answer_filled answer state id some))

  refusal_there : (refusal : Refusal) → (party_row c n).redirect ≡ refusal.redirect
      → location_of c (ProviderReply (op.Refused refusal given)) ≡ Some (location_at c (party_row c n).redirect refusal.fragment (refusal_form refusal))
  unfolding location_of
  refusal_there refusal is = ap (λ uri. Some (location_at c uri refusal.fragment (refusal_form refusal))) (sym is)

  pub refusal_followed_read : (refusal : Refusal) → (party_row c n).redirect ≡ refusal.redirect → IfSome refusal.state IsUtf8
      → AsksParty c from n (reply_followed c from (ProviderReply (op.Refused refusal given)) jar)
      (rp_ask.Callback (Ok (refusal_heard refusal (option_and_then word_of_text refusal.state))) None jar.first)
  refusal_followed_read refusal is state =
      subst (AsksParty c from n (reply_followed c from (ProviderReply (op.Refused refusal given)) jar)) (ap (callback_asked (party_client c n) jar.first) (refusal_any_state refusal state))
      (response_followed c n r low refusal.fragment (refusal_form refusal) from jar (location_of c (ProviderReply (op.Refused refusal given))) (refusal_there refusal is) (refusal_filled refusal state))
