-- What login pages, consent pages and error pages say.
use Rattle.std.proofs.Common.{◌≡◌, ℕ, Bool, true, false, Option, Some, None, refl, sym, ◌∙◌, ap, ◌⊎◌, inl, inr}
use Rattle.sso_base.specs.Words.{Word, Text}
use Rattle.sso_base.specs.declared.history.Entry.{Entry}
use Rattle.sso_base.proofs.RowLaws.{bool_cases}
use Rattle.client_registry.specs.Configuration.{Configuration}
use Rattle.oidc_words.specs.declared.scopes.Scopes.{Scopes}
use Rattle.auth_request.specs.declared.wish.Wish.{Wish}
use Rattle.auth_request.specs.declared.wish.PageNo.{PageNo}
use Rattle.auth_request.specs.declared.wish.PageNo.TheVariants as page
use Rattle.auth_request.specs.declared.wish.Verdict.TheVariants as verdict
use Rattle.user_interaction.specs.declared.need.Need.{Need}
use Rattle.user_interaction.specs.declared.need.Need.TheVariants as need
use Rattle.user_interaction.specs.Need.{needed}
use Rattle.oidc_words.specs.declared.errors.AuthError.TheVariants.{LoginRequired}
use Rattle.code_grant.specs.declared.rows.TurnRow.{TurnRow}
use Rattle.code_grant.specs.declared.rows.SessionRow.{SessionRow}
use Rattle.op_exchange.specs.declared.ask.OpAsk.{OpAsk}
use Rattle.op_exchange.specs.declared.ask.OpAsk.TheVariants as ask
use Rattle.op_exchange.specs.declared.reply.OpReply.{OpReply}
use Rattle.op_exchange.specs.declared.reply.OpReply.TheVariants.{LoginPage, ConsentPage, ErrorPage}
use Rattle.op_answer.specs.Past.{OpPast}
use Rattle.op_answer.specs.Sessions.{live_session}
use Rattle.op_answer.specs.Replies.{authorize_by, page_browser, login_by, consent_by, session_after}
use Rattle.op_answer.specs.Answering.{op_reply, op_answer}
use Rattle.op_answer.specs.Causes.{OwnTurn, NewTurn, LoginPageCause, ConsentAtOnce, ConsentAfterLogin, ConsentPageCause, ErrorPageCause, need_at_once, need_after_login, need_after_yes}
use Rattle.op_answer.proofs.Standing.{own_replies_stand}
use Rattle.op_answer.proofs.Forms.{LoginLed, LoginSeen, login_led, ConsentLed, decided, consent_led, consent_told, token_told, info_told, sign_out_told}

-- ---- without a session a login is needed, or none may be shown

without : (c : Configuration) (wish : Wish) (at : ℕ) → (needed c wish None at ≡ need.Login) ⊎ (needed c wish None at ≡ need.Error LoginRequired)
unfolding needed
without c wish at = elim (bool_cases wish.none) [ inl e ↦ inr (rw e refl) | inr e ↦ inl (rw e refl) ]

no_consent_without : (c : Configuration) (wish : Wish) (at : ℕ) → needed c wish None at ≡ need.Consent → ⊥
no_consent_without c wish at h = elim (without c wish at) [ inl e ↦ (let k : need.Login ≡ need.Consent = sym e ∙ h in cc) | inr e ↦ (let k : need.Error LoginRequired ≡ need.Consent = sym e ∙ h in cc) ]

no_answer_without : (c : Configuration) (wish : Wish) (at : ℕ) → needed c wish None at ≡ need.Answer → ⊥
no_answer_without c wish at h = elim (without c wish at) [ inl e ↦ (let k : need.Login ≡ need.Answer = sym e ∙ h in cc) | inr e ↦ (let k : need.Error LoginRequired ≡ need.Answer = sym e ∙ h in cc) ]

-- ---- login pages

module _ (c : Configuration) (past : OpPast) (e : Entry OpAsk) (w b : Word) (again : Bool) where
  abbrev this : OpReply
  this = LoginPage w b again

  login_page_by : (wish : Wish) (browser presented : Option Word) (wanted : Need) (session : Option SessionRow)
      → live_session past e.at presented ≡ session → need_at_once c past e wish session ≡ wanted
      → authorize_by c e wish (page_browser past e browser) wanted session ≡ this → NewTurn c past e wish browser presented w b again
  login_page_by wish browser presented (need.Error code) session live wants h = cc
  login_page_by wish browser presented need.Consent (Some session) live wants h = cc
  login_page_by wish browser presented need.Consent None live wants h = absurd (no_consent_without c wish e.at wants)
  login_page_by wish browser presented need.Answer (Some session) live wants h = cc
  login_page_by wish browser presented need.Answer None live wants h = absurd (no_answer_without c wish e.at wants)
  login_page_by wish browser presented need.Login session live wants h =
      let N : Option SessionRow → Need = λ o. need_at_once c past e wish o in
      record { wanted = ap N live ∙ wants; drawn = cc; browser_is = cc; first = cc }

  no_login_page : (row : TurnRow) (session : SessionRow) (wanted : Need) → login_by c e row session wanted ≡ this → ⊥
  no_login_page row session (need.Error code) h = cc
  no_login_page row session need.Login h = cc
  no_login_page row session need.Consent h = cc
  no_login_page row session need.Answer h = cc

  login_page_seen : (turn : Option Word) (signed : Option ℕ) (browser presented : Option Word) → LoginSeen c past e this turn signed browser presented
      → LoginPageCause c past e (ask.Login turn signed browser presented) w b again
  login_page_seen turn None browser presented seen =
      let h = seen.led in record { row = seen.row; own = seen.own; word_is = cc; browser_is = cc; repeated = cc }
  login_page_seen turn (Some user) browser presented seen =
      let session = session_after past e user presented in
      absurd (no_login_page seen.row session (need_after_login c past e seen.row session) seen.led)

  login_page_after : (turn : Option Word) (signed : Option ℕ) (browser presented : Option Word) → LoginLed c past e this turn signed browser presented
      → LoginPageCause c past e (ask.Login turn signed browser presented) w b again
  login_page_after turn signed browser presented (inl led) = let h = led.1 in cc
  login_page_after turn signed browser presented (inr (inl led)) = let h = led.1 in cc
  login_page_after turn signed browser presented (inr (inr seen)) = login_page_seen turn signed browser presented seen

  pub login_page_asked : (asked : OpAsk) → op_reply c past e asked ≡ this → LoginPageCause c past e asked w b again
  login_page_asked (ask.Authorize (verdict.Page why) browser presented) h = cc
  login_page_asked (ask.Authorize (verdict.Refuse refusal) browser presented) h = cc
  login_page_asked (ask.Authorize (verdict.Grant wish) browser presented) h =
      let session = live_session past e.at presented in
      login_page_by wish browser presented (need_at_once c past e wish session) session refl refl h
  login_page_asked (ask.Login turn signed browser presented) h =
      login_page_after turn signed browser presented (login_led c past e this turn signed browser presented h)
  login_page_asked (ask.Consent turn agree browser presented) h =
      let told = consent_told c past e this turn agree browser presented h in cc
  login_page_asked (ask.Token grant) h = let told = token_told c past e this grant h in cc
  login_page_asked (ask.Info bearer) h = let told = info_told c past e this bearer h in cc
  login_page_asked (ask.SignOut session) h = let told = sign_out_told c past e this session h in cc
  login_page_asked ask.Metadata h = cc
  login_page_asked ask.Keys h = cc
  login_page_asked ask.Twice h = cc
  login_page_asked ask.NotHere h = cc

  pub login_pages_have_a_cause : op_answer c past e ≡ LoginPage w b again → LoginPageCause c past e e.ask w b again
  login_pages_have_a_cause h = login_page_asked e.ask (own_replies_stand c past e this refl h).reply_is

-- ---- consent pages

module _ (c : Configuration) (past : OpPast) (e : Entry OpAsk) (w b : Word) (given : Option Word) (client : Text) (scopes : Scopes) where
  abbrev asks : OpReply
  asks = ConsentPage w b given client scopes

  consent_page_by : (wish : Wish) (browser presented : Option Word) (wanted : Need) (session : Option SessionRow)
      → live_session past e.at presented ≡ session → need_at_once c past e wish session ≡ wanted
      → authorize_by c e wish (page_browser past e browser) wanted session ≡ asks → ConsentAtOnce c past e wish browser presented w b given client scopes
  consent_page_by wish browser presented (need.Error code) session live wants h = cc
  consent_page_by wish browser presented need.Consent (Some session) live wants h =
      record { session = session; live = live; wanted = wants; drawn = cc; browser_is = cc; none_given = cc; client_is = cc; scopes_are = cc }
  consent_page_by wish browser presented need.Consent None live wants h = cc
  consent_page_by wish browser presented need.Answer (Some session) live wants h = cc
  consent_page_by wish browser presented need.Answer None live wants h = cc
  consent_page_by wish browser presented need.Login session live wants h = cc

  consent_page_signed : (turn : Option Word) (user : ℕ) (browser presented : Option Word) (row : TurnRow) → OwnTurn past e turn browser row → (wanted : Need)
      → need_after_login c past e row (session_after past e user presented) ≡ wanted
      → login_by c e row (session_after past e user presented) wanted ≡ asks → ConsentAfterLogin c past e turn user browser presented w b given client scopes
  consent_page_signed turn user browser presented row own (need.Error code) wants h = cc
  consent_page_signed turn user browser presented row own need.Login wants h = cc
  consent_page_signed turn user browser presented row own need.Answer wants h = cc
  consent_page_signed turn user browser presented row own need.Consent wants h =
      record { row = row; own = own; wanted = wants; word_is = cc; browser_is = cc; given_is = cc; client_is = cc; scopes_are = cc }

  consent_page_seen : (turn : Option Word) (signed : Option ℕ) (browser presented : Option Word) → LoginSeen c past e asks turn signed browser presented
      → ConsentPageCause c past e (ask.Login turn signed browser presented) w b given client scopes
  consent_page_seen turn None browser presented seen = let h = seen.led in cc
  consent_page_seen turn (Some user) browser presented seen =
      consent_page_signed turn user browser presented seen.row seen.own (need_after_login c past e seen.row (session_after past e user presented)) refl seen.led

  consent_page_after : (turn : Option Word) (signed : Option ℕ) (browser presented : Option Word) → LoginLed c past e asks turn signed browser presented
      → ConsentPageCause c past e (ask.Login turn signed browser presented) w b given client scopes
  consent_page_after turn signed browser presented (inl led) = let h = led.1 in cc
  consent_page_after turn signed browser presented (inr (inl led)) = let h = led.1 in cc
  consent_page_after turn signed browser presented (inr (inr seen)) = consent_page_seen turn signed browser presented seen

  pub consent_page_asked : (asked : OpAsk) → op_reply c past e asked ≡ asks → ConsentPageCause c past e asked w b given client scopes
  consent_page_asked (ask.Authorize (verdict.Page why) browser presented) h = cc
  consent_page_asked (ask.Authorize (verdict.Refuse refusal) browser presented) h = cc
  consent_page_asked (ask.Authorize (verdict.Grant wish) browser presented) h =
      let session = live_session past e.at presented in
      consent_page_by wish browser presented (need_at_once c past e wish session) session refl refl h
  consent_page_asked (ask.Login turn signed browser presented) h =
      consent_page_after turn signed browser presented (login_led c past e asks turn signed browser presented h)
  consent_page_asked (ask.Consent turn agree browser presented) h =
      let told = consent_told c past e asks turn agree browser presented h in cc
  consent_page_asked (ask.Token grant) h = let told = token_told c past e asks grant h in cc
  consent_page_asked (ask.Info bearer) h = let told = info_told c past e asks bearer h in cc
  consent_page_asked (ask.SignOut session) h = let told = sign_out_told c past e asks session h in cc
  consent_page_asked ask.Metadata h = cc
  consent_page_asked ask.Keys h = cc
  consent_page_asked ask.Twice h = cc
  consent_page_asked ask.NotHere h = cc

  pub consent_pages_have_a_cause : op_answer c past e ≡ ConsentPage w b given client scopes → ConsentPageCause c past e e.ask w b given client scopes
  consent_pages_have_a_cause h = consent_page_asked e.ask (own_replies_stand c past e asks refl h).reply_is

-- ---- error pages

module _ (c : Configuration) (past : OpPast) (e : Entry OpAsk) where
  no_error_at_once : (wish : Wish) (browser : Word) (wanted : Need) (session : Option SessionRow) (why : PageNo) → authorize_by c e wish browser wanted session ≡ ErrorPage why → ⊥
  no_error_at_once wish browser (need.Error code) session why h = cc
  no_error_at_once wish browser need.Consent (Some session) why h = cc
  no_error_at_once wish browser need.Consent None why h = cc
  no_error_at_once wish browser need.Answer (Some session) why h = cc
  no_error_at_once wish browser need.Answer None why h = cc
  no_error_at_once wish browser need.Login session why h = cc

  no_error_signed : (row : TurnRow) (session : SessionRow) (wanted : Need) (why : PageNo) → login_by c e row session wanted ≡ ErrorPage why → ⊥
  no_error_signed row session (need.Error code) why h = cc
  no_error_signed row session need.Login why h = cc
  no_error_signed row session need.Consent why h = cc
  no_error_signed row session need.Answer why h = cc

  no_error_seen : (turn : Option Word) (signed : Option ℕ) (browser presented : Option Word) (why : PageNo) → LoginSeen c past e (ErrorPage why) turn signed browser presented → ⊥
  no_error_seen turn None browser presented why seen = let h = seen.led in cc
  no_error_seen turn (Some user) browser presented why seen =
      let session = session_after past e user presented in no_error_signed seen.row session (need_after_login c past e seen.row session) why seen.led

  error_after : (turn : Option Word) (signed : Option ℕ) (browser presented : Option Word) (why : PageNo) → LoginLed c past e (ErrorPage why) turn signed browser presented
      → ErrorPageCause past e (ask.Login turn signed browser presented) why
  error_after turn signed browser presented page.Turn (inl led) = led.0
  error_after turn signed browser presented page.Browser (inr (inl led)) = led.0
  error_after turn signed browser presented why (inr (inr seen)) = absurd (no_error_seen turn signed browser presented why seen)
  error_after turn signed browser presented why (inl led) = let h = led.1 in cc
  error_after turn signed browser presented why (inr (inl led)) = let h = led.1 in cc

  no_decision : (row : TurnRow) (session : SessionRow) (wanted : Need) (why : PageNo) → consent_by c e row session wanted ≡ ErrorPage why → ⊥
  no_decision row session (need.Error code) why h = cc
  no_decision row session need.Login why h = cc
  no_decision row session need.Consent why h = cc
  no_decision row session need.Answer why h = cc

  no_error_decided : (row : TurnRow) (session : SessionRow) (agree : Bool) (why : PageNo) → decided c past e row session agree ≡ ErrorPage why → ⊥
  no_error_decided row session false why h = cc
  no_error_decided row session true why h = no_decision row session (need_after_yes c past e row session) why h

  error_consent : (turn : Option Word) (agree : Bool) (browser presented : Option Word) (why : PageNo) → ConsentLed c past e (ErrorPage why) turn agree browser presented
      → ErrorPageCause past e (ask.Consent turn agree browser presented) why
  error_consent turn agree browser presented page.Turn (inl led) = led.0
  error_consent turn agree browser presented page.Browser (inr (inl led)) = led.0
  error_consent turn agree browser presented why (inr (inr seen)) = absurd (no_error_decided seen.row seen.session agree why seen.led)
  error_consent turn agree browser presented why (inl led) = let h = led.1 in cc
  error_consent turn agree browser presented why (inr (inl led)) = let h = led.1 in cc

  error_twice : (why : PageNo) → ErrorPage page.Twice ≡ ErrorPage why → ErrorPageCause past e ask.Twice why
  error_twice page.Twice h = tt
  error_twice why h = cc

  pub error_asked : (asked : OpAsk) (why : PageNo) → op_reply c past e asked ≡ ErrorPage why → ErrorPageCause past e asked why
  error_asked (ask.Authorize (verdict.Page judged) browser presented) why h = cc
  error_asked (ask.Authorize (verdict.Refuse refusal) browser presented) why h = cc
  error_asked (ask.Authorize (verdict.Grant wish) browser presented) why h =
      let session = live_session past e.at presented in
      absurd (no_error_at_once wish (page_browser past e browser) (need_at_once c past e wish session) session why h)
  error_asked (ask.Login turn signed browser presented) why h =
      error_after turn signed browser presented why (login_led c past e (ErrorPage why) turn signed browser presented h)
  error_asked (ask.Consent turn agree browser presented) why h =
      error_consent turn agree browser presented why (consent_led c past e (ErrorPage why) turn agree browser presented h)
  error_asked (ask.Token grant) why h = let told = token_told c past e (ErrorPage why) grant h in cc
  error_asked (ask.Info bearer) why h = let told = info_told c past e (ErrorPage why) bearer h in cc
  error_asked (ask.SignOut session) why h = let told = sign_out_told c past e (ErrorPage why) session h in cc
  error_asked ask.Metadata why h = cc
  error_asked ask.Keys why h = cc
  error_asked ask.Twice why h = error_twice why h
  error_asked ask.NotHere why h = cc

  pub error_pages_have_a_cause : (why : PageNo) → op_answer c past e ≡ ErrorPage why → ErrorPageCause past e e.ask why
  error_pages_have_a_cause why h = error_asked e.ask why (own_replies_stand c past e (ErrorPage why) refl h).reply_is
