-- How a login form and a consent form lead to a reply: what was tested before the need. And which replies an ask gets.
use Rattle.std.proofs.Common.{◌≡◌, ℕ, Bool, true, false, not, ◌||◌, cond, Option, Some, None, Result, Ok, Err, refl, sym, ◌∙◌, ap, ◌⊎◌, inl, inr}
use Rattle.sso_base.specs.Words.{Word, is_word, word_of_text}
use Rattle.sso_base.specs.declared.history.Entry.{Entry}
use Rattle.client_registry.specs.Configuration.{Configuration}
use Rattle.auth_request.specs.declared.wish.Wish.{Wish}
use Rattle.auth_request.specs.declared.wish.Verdict.{Verdict}
use Rattle.auth_request.specs.declared.wish.Verdict.TheVariants as verdict
use Rattle.oidc_words.specs.declared.errors.AuthError.TheVariants.{AccessDenied}
use Rattle.auth_request.specs.declared.wish.PageNo.TheVariants as page
use Rattle.user_interaction.specs.declared.need.Need.{Need}
use Rattle.user_interaction.specs.declared.need.Need.TheVariants as need
use Rattle.token_endpoint.specs.declared.granting.Grant.{Grant}
use Rattle.token_endpoint.specs.declared.no.GrantNo.{GrantNo}
use Rattle.userinfo.specs.declared.header.Bearer.{Bearer}
use Rattle.userinfo.specs.declared.header.Bearer.TheVariants as bearer
use Rattle.code_grant.specs.declared.rows.TurnRow.{TurnRow}
use Rattle.code_grant.specs.declared.rows.SessionRow.{SessionRow}
use Rattle.code_grant.specs.declared.rows.CodeRow.{CodeRow}
use Rattle.code_grant.specs.declared.rows.TokenRow.{TokenRow}
use Rattle.code_grant.specs.declared.redeem.Redeem.{Redeem}
use Rattle.code_grant.specs.declared.redeem.Redeem.TheVariants.{Redeemed}
use Rattle.op_exchange.specs.declared.ask.OpAsk.{OpAsk}
use Rattle.op_exchange.specs.declared.reply.OpReply.{OpReply}
use Rattle.op_exchange.specs.declared.reply.OpReply.TheVariants.{LoginPage, ConsentPage, Answered, Refused, ErrorPage, Tokens, TokenRefused, Info, InfoRefused, SignedOut}
use Rattle.op_answer.specs.Past.{OpPast}
use Rattle.op_answer.specs.Turns.{live_turn}
use Rattle.op_answer.specs.Sessions.{live_session}
use Rattle.op_answer.specs.Codes.{redeem, held_code}
use Rattle.op_answer.specs.AccessTokens.{live_access_token}
use Rattle.op_answer.specs.Replies.{refusal_of, is_turns, page_browser, session_after, authorize, authorize_by, login, login_by, login_signed, consent, consent_in, consent_by, token, tokens_by, info, info_by, sign_out, sign_out_by}
use Rattle.op_answer.specs.Causes.{OwnTurn, OwnConsent, OtherBrowser, NoSession, OtherAtConsent, need_at_once, need_after_login, need_after_yes}

-- what a consent form of a live turn and session gets
abbrev pub decided : Configuration → OpPast → Entry OpAsk → TurnRow → SessionRow → Bool → OpReply
decided c past e row session agree =
    cond (not agree) (Refused (refusal_of row.wish AccessDenied) None) (consent_by c e row session (need_after_yes c past e row session))

module _ (c : Configuration) (past : OpPast) (e : Entry OpAsk) (told : OpReply) where
  -- ---- a login form: its turn is live and of this browser

  pub record LoginSeen (turn : Option Word) (signed : Option ℕ) (browser presented : Option Word) : Type 0 where
    pub row : TurnRow
    pub own : OwnTurn past e turn browser row
    pub led : login_signed c past e row signed presented ≡ told

  abbrev pub LoginLed : Option Word → Option ℕ → Option Word → Option Word → Type 0
  LoginLed turn signed browser presented =
      ((live_turn past e.at turn ≡ None) × (ErrorPage page.Turn ≡ told)) ⊎
      (OtherBrowser past e turn browser × (ErrorPage page.Browser ≡ told)) ⊎ LoginSeen turn signed browser presented

  login_by_browser : (turn : Option Word) (signed : Option ℕ) (browser presented : Option Word) (row : TurnRow) → live_turn past e.at turn ≡ Some row
      → (same : Bool) → is_word browser row.browser ≡ same → cond (not same) (ErrorPage page.Browser) (login_signed c past e row signed presented) ≡ told
      → LoginLed turn signed browser presented
  login_by_browser turn signed browser presented row live false same h = inr (inl (record { row = row; live = live; other = same }, h))
  login_by_browser turn signed browser presented row live true same h =
      inr (inr (record { row = row; own = record { live = live; same_browser = same }; led = h }))

  login_by_turn : (turn : Option Word) (signed : Option ℕ) (browser presented : Option Word) (found : Option TurnRow) → live_turn past e.at turn ≡ found
      → login c past e found signed browser presented ≡ told → LoginLed turn signed browser presented
  login_by_turn turn signed browser presented None live h = inl (live, h)
  login_by_turn turn signed browser presented (Some row) live h =
      login_by_browser turn signed browser presented row live (is_word browser row.browser) refl h

  pub login_led : (turn : Option Word) (signed : Option ℕ) (browser presented : Option Word)
      → login c past e (live_turn past e.at turn) signed browser presented ≡ told → LoginLed turn signed browser presented
  login_led turn signed browser presented h = login_by_turn turn signed browser presented (live_turn past e.at turn) refl h

  -- ---- a consent form: its turn and the turn's session are live, and of this browser

  pub record ConsentSeen (turn : Option Word) (agree : Bool) (browser presented : Option Word) : Type 0 where
    pub row : TurnRow
    pub session : SessionRow
    pub own : OwnConsent past e turn browser presented row session
    pub led : decided c past e row session agree ≡ told

  abbrev pub ConsentLed : Option Word → Bool → Option Word → Option Word → Type 0
  ConsentLed turn agree browser presented =
      (((live_turn past e.at turn ≡ None) ⊎ NoSession past e turn) × (ErrorPage page.Turn ≡ told)) ⊎
      (OtherAtConsent past e turn browser presented × (ErrorPage page.Browser ≡ told)) ⊎ ConsentSeen turn agree browser presented

  consent_by_cookies : (turn : Option Word) (agree : Bool) (browser presented : Option Word) (row : TurnRow) (session : SessionRow) → live_turn past e.at turn ≡ Some row
      → live_session past e.at row.session ≡ Some session → (same own : Bool) → is_word browser row.browser ≡ same → is_turns presented row.session ≡ own
      → cond (not same || not own) (ErrorPage page.Browser) (decided c past e row session agree) ≡ told → ConsentLed turn agree browser presented
  consent_by_cookies turn agree browser presented row session live standing false own is_same is_own h =
      inr (inl (record { row = row; live = live; session = session; standing = standing; other = inl is_same }, h))
  consent_by_cookies turn agree browser presented row session live standing true false is_same is_own h =
      inr (inl (record { row = row; live = live; session = session; standing = standing; other = inr is_own }, h))
  consent_by_cookies turn agree browser presented row session live standing true true is_same is_own h =
      inr (inr (record {
        row = row;
        session = session;
        own = record { own = record { live = live; same_browser = is_same }; live = standing; same_session = is_own };
        led = h;
      }))

  consent_by_session : (turn : Option Word) (agree : Bool) (browser presented : Option Word) (row : TurnRow) → live_turn past e.at turn ≡ Some row
      → (found : Option SessionRow) → live_session past e.at row.session ≡ found → consent_in c past e row found agree browser presented ≡ told
      → ConsentLed turn agree browser presented
  consent_by_session turn agree browser presented row live None standing h = inl (inr (record { row = row; live = live; ended = standing }), h)
  consent_by_session turn agree browser presented row live (Some session) standing h =
      consent_by_cookies turn agree browser presented row session live standing (is_word browser row.browser) (is_turns presented row.session) refl refl h

  consent_by_turn : (turn : Option Word) (agree : Bool) (browser presented : Option Word) (found : Option TurnRow) → live_turn past e.at turn ≡ found
      → consent c past e found agree browser presented ≡ told → ConsentLed turn agree browser presented
  consent_by_turn turn agree browser presented None live h = inl (inl live, h)
  consent_by_turn turn agree browser presented (Some row) live h =
      consent_by_session turn agree browser presented row live (live_session past e.at row.session) refl h

  pub consent_led : (turn : Option Word) (agree : Bool) (browser presented : Option Word)
      → consent c past e (live_turn past e.at turn) agree browser presented ≡ told → ConsentLed turn agree browser presented
  consent_led turn agree browser presented h = consent_by_turn turn agree browser presented (live_turn past e.at turn) refl h

-- ---- which replies a consent form gets

abbrev pub at_consent : OpReply → Bool
at_consent (Answered answer given) = true
at_consent (Refused refusal given) = true
at_consent (ErrorPage why) = true
at_consent other = false

by_need : (c : Configuration) (e : Entry OpAsk) (row : TurnRow) (session : SessionRow) (wanted : Need) → at_consent (consent_by c e row session wanted) ≡ true
by_need c e row session need.Answer = refl
by_need c e row session (need.Error code) = refl
by_need c e row session need.Login = refl
by_need c e row session need.Consent = refl

by_decision : (c : Configuration) (past : OpPast) (e : Entry OpAsk) (row : TurnRow) (session : SessionRow) (agree : Bool) → at_consent (decided c past e row session agree) ≡ true
by_decision c past e row session false = refl
by_decision c past e row session true = by_need c e row session (need_after_yes c past e row session)

at_consent_led : (c : Configuration) (past : OpPast) (e : Entry OpAsk) (told : OpReply) (turn : Option Word) (agree : Bool) (browser presented : Option Word)
    → ConsentLed c past e told turn agree browser presented → at_consent told ≡ true
at_consent_led c past e told turn agree browser presented (inl led) = sym (ap at_consent led.1)
at_consent_led c past e told turn agree browser presented (inr (inl led)) = sym (ap at_consent led.1)
at_consent_led c past e told turn agree browser presented (inr (inr seen)) =
    sym (ap at_consent seen.led) ∙ by_decision c past e seen.row seen.session agree

pub consent_told : (c : Configuration) (past : OpPast) (e : Entry OpAsk) (told : OpReply) (turn : Option Word) (agree : Bool) (browser presented : Option Word)
    → consent c past e (live_turn past e.at turn) agree browser presented ≡ told → at_consent told ≡ true
consent_told c past e told turn agree browser presented h =
    at_consent_led c past e told turn agree browser presented (consent_led c past e told turn agree browser presented h)

-- which an authorization request and a login form get
abbrev pub at_page : OpReply → Bool
at_page (LoginPage w b again) = true
at_page (ConsentPage w b given client scopes) = true
at_page (Answered answer given) = true
at_page (Refused refusal given) = true
at_page (ErrorPage why) = true
at_page other = false

by_wanted : (c : Configuration) (e : Entry OpAsk) (wish : Wish) (browser : Word) (wanted : Need) (session : Option SessionRow) → at_page (authorize_by c e wish browser wanted session) ≡ true
by_wanted c e wish browser (need.Error code) session = refl
by_wanted c e wish browser need.Consent (Some session) = refl
by_wanted c e wish browser need.Consent None = refl
by_wanted c e wish browser need.Answer (Some session) = refl
by_wanted c e wish browser need.Answer None = refl
by_wanted c e wish browser need.Login session = refl

pub request_told : (c : Configuration) (past : OpPast) (e : Entry OpAsk) (told : OpReply) (judged : Verdict) (browser presented : Option Word)
    → authorize c past e judged browser presented ≡ told → at_page told ≡ true
request_told c past e told (verdict.Page why) browser presented h = sym (ap at_page h)
request_told c past e told (verdict.Refuse refusal) browser presented h = sym (ap at_page h)
request_told c past e told (verdict.Grant wish) browser presented h =
    let session = live_session past e.at presented in
    sym (ap at_page h) ∙ by_wanted c e wish (page_browser past e browser) (need_at_once c past e wish session) session

by_left : (c : Configuration) (e : Entry OpAsk) (row : TurnRow) (session : SessionRow) (wanted : Need) → at_page (login_by c e row session wanted) ≡ true
by_left c e row session (need.Error code) = refl
by_left c e row session need.Login = refl
by_left c e row session need.Consent = refl
by_left c e row session need.Answer = refl

by_password : (c : Configuration) (past : OpPast) (e : Entry OpAsk) (row : TurnRow) (signed : Option ℕ) (presented : Option Word) → at_page (login_signed c past e row signed presented) ≡ true
by_password c past e row None presented = refl
by_password c past e row (Some user) presented =
    let session = session_after past e user presented in by_left c e row session (need_after_login c past e row session)

at_login_led : (c : Configuration) (past : OpPast) (e : Entry OpAsk) (told : OpReply) (turn : Option Word) (signed : Option ℕ) (browser presented : Option Word)
    → LoginLed c past e told turn signed browser presented → at_page told ≡ true
at_login_led c past e told turn signed browser presented (inl led) = sym (ap at_page led.1)
at_login_led c past e told turn signed browser presented (inr (inl led)) = sym (ap at_page led.1)
at_login_led c past e told turn signed browser presented (inr (inr seen)) = sym (ap at_page seen.led) ∙ by_password c past e seen.row signed presented

pub login_told : (c : Configuration) (past : OpPast) (e : Entry OpAsk) (told : OpReply) (turn : Option Word) (signed : Option ℕ) (browser presented : Option Word)
    → login c past e (live_turn past e.at turn) signed browser presented ≡ told → at_page told ≡ true
login_told c past e told turn signed browser presented h =
    at_login_led c past e told turn signed browser presented (login_led c past e told turn signed browser presented h)

-- which a token request gets
abbrev pub at_token : OpReply → Bool
at_token (Tokens access id) = true
at_token (TokenRefused code) = true
at_token other = false

by_redeem : (c : Configuration) (e : Entry OpAsk) (r : Redeem) (found : Option CodeRow) → at_token (tokens_by c e r found) ≡ true
by_redeem c e Redeemed (Some code) = refl
by_redeem c e Redeemed None = refl
by_redeem c e other found = refl

by_grant : (c : Configuration) (past : OpPast) (e : Entry OpAsk) (grant : Result Grant GrantNo) → at_token (token c past e grant) ≡ true
by_grant c past e (Err why) = refl
by_grant c past e (Ok grant) = by_redeem c e (redeem past e.at grant) (held_code past e.at (word_of_text grant.code))

pub token_told : (c : Configuration) (past : OpPast) (e : Entry OpAsk) (told : OpReply) (grant : Result Grant GrantNo) → token c past e grant ≡ told → at_token told ≡ true
token_told c past e told grant h = sym (ap at_token h) ∙ by_grant c past e grant

-- which a UserInfo request gets
abbrev pub at_info : OpReply → Bool
at_info (Info claims) = true
at_info (InfoRefused given) = true
at_info other = false

by_access : (c : Configuration) (found : Option TokenRow) → at_info (info_by c found) ≡ true
by_access c None = refl
by_access c (Some token) = refl

by_bearer : (c : Configuration) (past : OpPast) (e : Entry OpAsk) (given : Bearer) → at_info (info c past e given) ≡ true
by_bearer c past e bearer.Absent = refl
by_bearer c past e bearer.Unreadable = refl
by_bearer c past e (bearer.Given w) = by_access c (live_access_token past e.at w)

pub info_told : (c : Configuration) (past : OpPast) (e : Entry OpAsk) (told : OpReply) (given : Bearer) → info c past e given ≡ told → at_info told ≡ true
info_told c past e told given h = sym (ap at_info h) ∙ by_bearer c past e given

-- which a sign-out gets
abbrev pub at_sign_out : OpReply → Bool
at_sign_out (SignedOut messages) = true
at_sign_out other = false

by_ended : (c : Configuration) (e : Entry OpAsk) (found : Option SessionRow) → at_sign_out (sign_out_by c e found) ≡ true
by_ended c e None = refl
by_ended c e (Some session) = refl

pub sign_out_told : (c : Configuration) (past : OpPast) (e : Entry OpAsk) (told : OpReply) (presented : Option Word) → sign_out c past e presented ≡ told → at_sign_out told ≡ true
sign_out_told c past e told presented h = sym (ap at_sign_out h) ∙ by_ended c e (live_session past e.at presented)
