-- What each cause leads to: the reply that there is, were there always room.
use Rattle.std.proofs.Common.{◌≡◌, ℕ, ◌==◌, Bool, true, false, not, ◌||◌, cond, Option, Some, None, Ok, Err, refl, sym, ◌∙◌, ap, ◌⊎◌, inl, inr}
use Rattle.std.specs.Str.{bytes_eq}
use Rattle.std.proofs.lemmas.Bool.Decides.{eqb_tells}
use Rattle.std.proofs.lemmas.Slice.Eq.{bytes_eq-Decides}
use Rattle.sso_base.specs.Words.{Word, Text, is_word, word_of_text}
use Rattle.sso_base.specs.Rows.{lives}
use Rattle.sso_base.specs.declared.history.Entry.{Entry}
use Rattle.client_registry.specs.Configuration.{Configuration}
use Rattle.oidc_words.specs.declared.scopes.Scopes.{Scopes}
use Rattle.oidc_words.specs.declared.errors.Refusal.{Refusal}
use Rattle.oidc_words.specs.declared.errors.AuthError.{AuthError}
use Rattle.oidc_words.specs.Lives.{code_usable}
use Rattle.auth_request.specs.declared.wish.Wish.{Wish}
use Rattle.auth_request.specs.declared.wish.PageNo.{PageNo}
use Rattle.auth_request.specs.declared.wish.PageNo.TheVariants as page
use Rattle.auth_request.specs.declared.wish.Verdict.TheVariants as verdict
use Rattle.user_interaction.specs.declared.need.Need.{Need}
use Rattle.user_interaction.specs.declared.need.Need.TheVariants as need
use Rattle.auth_answer.specs.declared.answer.Answer.{Answer}
use Rattle.token_endpoint.specs.declared.error.TokenError.{TokenError}
use Rattle.token_endpoint.specs.declared.error.TokenError.TheVariants.{InvalidGrant}
use Rattle.code_grant.specs.declared.rows.TurnRow.{TurnRow}
use Rattle.code_grant.specs.declared.rows.SessionRow.{SessionRow}
use Rattle.code_grant.specs.declared.rows.CodeRow.{CodeRow}
use Rattle.code_grant.specs.declared.redeem.Redeem.{Redeem}
use Rattle.code_grant.specs.declared.redeem.Redeem.TheVariants.{Redeemed, Unknown, OtherClient, Spent, Expired, OtherUri}
use Rattle.code_grant.specs.Redeeming.{redeem_of}
use Rattle.op_issue.specs.IdTokens.{issued_id}
use Rattle.op_exchange.specs.declared.ask.OpAsk.{OpAsk}
use Rattle.op_exchange.specs.declared.ask.OpAsk.TheVariants as ask
use Rattle.op_exchange.specs.declared.reply.OpReply.{OpReply}
use Rattle.op_exchange.specs.declared.reply.OpReply.TheVariants.{LoginPage, ConsentPage, Answered, Refused, ErrorPage, Tokens, TokenRefused}
use Rattle.op_answer.specs.Past.{OpPast}
use Rattle.op_answer.specs.Turns.{live_turn}
use Rattle.op_answer.specs.Sessions.{live_session}
use Rattle.op_answer.specs.Codes.{redeem, held_code}
use Rattle.op_answer.specs.Replies.{refusal_of, is_turns, page_browser, session_after, authorize_by, login, login_by, login_signed, consent, consent_in, consent_by, tokens_by}
use Rattle.op_answer.specs.Authentications.{code_authentication}
use Rattle.op_answer.specs.Answering.{op_reply}
use Rattle.op_answer.specs.Causes.{OwnTurn, OwnConsent, OtherBrowser, NoSession, OtherAtConsent, LoginPageCause, ConsentPageCause, AnsweredCause, RefusedCause, ErrorPageCause, TokensCause, TokenRefusedCause, ErrorAfterLogin, ErrorAfterYes, ErrorAtConsent, need_at_once, need_after_login, need_after_yes}
use Rattle.op_answer.proofs.Forms.{decided}

-- ---- replies with equal parts are equal

same_page : {w v b d : Word} {f g : Bool} → w ≡ v → b ≡ d → f ≡ g → LoginPage w b f ≡ LoginPage v d g
same_page p q r = cc

same_consent : {w v b d : Word} {o p : Option Word} {x y : Text} {s t : Scopes} → w ≡ v → b ≡ d → o ≡ p → x ≡ y → s ≡ t → ConsentPage w b o x s ≡ ConsentPage v d p y t
same_consent p q r h k = cc

same_answer : {a b : Answer} {o p : Option Word} → a ≡ b → o ≡ p → Answered a o ≡ Answered b p
same_answer p q = cc

same_refusal : {a b : Refusal} {o p : Option Word} → a ≡ b → o ≡ p → Refused a o ≡ Refused b p
same_refusal p q = cc

same_tokens : {w v : Word} {x y : Text} → w ≡ v → x ≡ y → Tokens w x ≡ Tokens v y
same_tokens p q = cc

-- ---- the code's row is redeemed

same_number : (m n : ℕ) → m ≡ n → (m == n) ≡ true
same_number m n is = elim (eqb_tells m n) [ inl e ↦ e.0 | inr e ↦ absurd (e.1 is) ]

redeems : (client spent usable uri : Bool) → client ≡ true → spent ≡ false → usable ≡ true → uri ≡ true
    → cond (not client) OtherClient (cond spent Spent (cond (not usable) Expired (cond (not uri) OtherUri Redeemed))) ≡ Redeemed
redeems client spent usable uri own unspent lasts same = rw (own, unspent, lasts, same) refl

or_true : (b : Bool) → (b || true) ≡ true
or_true true = refl
or_true false = refl

-- another browser or another session is shown the error page
other_shown : (same own : Bool) (rest : OpReply) → (same ≡ false) ⊎ (own ≡ false) → cond (not same || not own) (ErrorPage page.Browser) rest ≡ ErrorPage page.Browser
other_shown same own rest (inl browsers) = let B : Bool → OpReply = λ b. cond (not b || not own) (ErrorPage page.Browser) rest in ap B browsers
other_shown same own rest (inr sessions) =
    let T : Bool → OpReply = λ b. cond (not same || not b) (ErrorPage page.Browser) rest in
    let C : Bool → OpReply = λ b. cond b (ErrorPage page.Browser) rest in
    ap T sessions ∙ ap C (or_true (not same))

module _ (c : Configuration) (past : OpPast) (e : Entry OpAsk) where
  -- ---- what the forms have in common

  -- a login form of its own turn
  own_turn : (turn : Option Word) (signed : Option ℕ) (browser presented : Option Word) (row : TurnRow) → OwnTurn past e turn browser row
      → login c past e (live_turn past e.at turn) signed browser presented ≡ login_signed c past e row signed presented
  own_turn turn signed browser presented row own =
      let L : Option TurnRow → OpReply = λ o. login c past e o signed browser presented in
      let B : Bool → OpReply = λ b. cond (not b) (ErrorPage page.Browser) (login_signed c past e row signed presented) in
      ap L own.live ∙ ap B own.same_browser

  signed_in : (turn : Option Word) (user : ℕ) (browser presented : Option Word) (row : TurnRow) (wanted : Need) → OwnTurn past e turn browser row
      → need_after_login c past e row (session_after past e user presented) ≡ wanted
      → login c past e (live_turn past e.at turn) (Some user) browser presented ≡ login_by c e row (session_after past e user presented) wanted
  signed_in turn user browser presented row wanted own wants =
      let N : Need → OpReply = λ n. login_by c e row (session_after past e user presented) n in
      own_turn turn (Some user) browser presented row own ∙ ap N wants

  -- a consent form of its own turn and session
  own_consent : (turn : Option Word) (agree : Bool) (browser presented : Option Word) (row : TurnRow) (session : SessionRow) → OwnConsent past e turn browser presented row session
      → consent c past e (live_turn past e.at turn) agree browser presented ≡ decided c past e row session agree
  own_consent turn agree browser presented row session own =
      let L : Option TurnRow → OpReply = λ o. consent c past e o agree browser presented in
      let S : Option SessionRow → OpReply = λ o. consent_in c past e row o agree browser presented in
      let B : Bool → OpReply = λ b. cond (not b || not (is_turns presented row.session)) (ErrorPage page.Browser) (decided c past e row session agree) in
      let T : Bool → OpReply = λ b. cond (not b) (ErrorPage page.Browser) (decided c past e row session agree) in
      ap L own.own.live ∙ (ap S own.live ∙ (ap B own.own.same_browser ∙ ap T own.same_session))

  agreed : (turn browser presented : Option Word) (row : TurnRow) (session : SessionRow) (wanted : Need) → OwnConsent past e turn browser presented row session
      → need_after_yes c past e row session ≡ wanted → consent c past e (live_turn past e.at turn) true browser presented ≡ consent_by c e row session wanted
  agreed turn browser presented row session wanted own wants =
      let N : Need → OpReply = λ n. consent_by c e row session n in
      own_consent turn true browser presented row session own ∙ ap N wants

  -- ---- pages

  pub login_page_leads : (asked : OpAsk) (w b : Word) (again : Bool) → LoginPageCause c past e asked w b again → op_reply c past e asked ≡ LoginPage w b again
  login_page_leads (ask.Authorize (verdict.Grant wish) browser presented) w b again cause =
      let session = live_session past e.at presented in
      let N : Need → OpReply = λ n. authorize_by c e wish (page_browser past e browser) n session in
      ap N cause.wanted ∙ same_page cause.drawn cause.browser_is (sym cause.first)
  login_page_leads (ask.Login turn None browser presented) w b again cause =
      own_turn turn None browser presented cause.row cause.own ∙ same_page cause.word_is cause.browser_is (sym cause.repeated)
  login_page_leads other w b again cause = absurd cause

  -- what an authorization request with this live session needs
  at_once : (wish : Wish) (browser presented : Option Word) (session : SessionRow) (wanted : Need) → live_session past e.at presented ≡ Some session → need_at_once c past e wish (Some session) ≡ wanted
      → op_reply c past e (ask.Authorize (verdict.Grant wish) browser presented) ≡ authorize_by c e wish (page_browser past e browser) wanted (Some session)
  at_once wish browser presented session wanted live wants =
      let b = page_browser past e browser in
      let S : Option SessionRow → OpReply = λ o. authorize_by c e wish b (need_at_once c past e wish o) o in
      let N : Need → OpReply = λ n. authorize_by c e wish b n (Some session) in
      ap S live ∙ ap N wants

  pub consent_page_leads : (asked : OpAsk) (w b : Word) (given : Option Word) (client : Text) (scopes : Scopes) → ConsentPageCause c past e asked w b given client scopes
      → op_reply c past e asked ≡ ConsentPage w b given client scopes
  consent_page_leads (ask.Authorize (verdict.Grant wish) browser presented) w b given client scopes cause =
      at_once wish browser presented cause.session need.Consent cause.live cause.wanted ∙
      same_consent cause.drawn cause.browser_is (sym cause.none_given) cause.client_is cause.scopes_are
  consent_page_leads (ask.Login turn (Some user) browser presented) w b given client scopes cause =
      signed_in turn user browser presented cause.row need.Consent cause.own cause.wanted ∙
      same_consent cause.word_is cause.browser_is (sym cause.given_is) cause.client_is cause.scopes_are
  consent_page_leads other w b given client scopes cause = absurd cause

  -- ---- responses

  pub answer_leads : (asked : OpAsk) (answer : Answer) (given : Option Word) → AnsweredCause c past e asked answer given → op_reply c past e asked ≡ Answered answer given
  answer_leads (ask.Authorize (verdict.Grant wish) browser presented) answer given cause =
      at_once wish browser presented cause.session need.Answer cause.live cause.enough ∙ same_answer cause.answer_is (sym cause.none_given)
  answer_leads (ask.Login turn (Some user) browser presented) answer given cause =
      signed_in turn user browser presented cause.row need.Answer cause.own cause.enough ∙ same_answer cause.answer_is (sym cause.given_is)
  answer_leads (ask.Consent turn true browser presented) answer given cause =
      agreed turn browser presented cause.row cause.session need.Answer cause.own cause.enough ∙ same_answer cause.answer_is (sym cause.none_given)
  answer_leads other answer given cause = absurd cause

  error_after_login : (row : TurnRow) (session : SessionRow) (wanted : Need) (code : AuthError) → ErrorAfterLogin wanted code
      → login_by c e row session wanted ≡ Refused (refusal_of row.wish code) (Some session.word)
  error_after_login row session (need.Error why) code is = let R : AuthError → OpReply = λ x. Refused (refusal_of row.wish x) (Some session.word) in ap R is
  error_after_login row session need.Login code is = let R : AuthError → OpReply = λ x. Refused (refusal_of row.wish x) (Some session.word) in ap R is
  error_after_login row session need.Consent code is = absurd is
  error_after_login row session need.Answer code is = absurd is

  error_after_yes : (row : TurnRow) (session : SessionRow) (wanted : Need) (code : AuthError) → ErrorAfterYes wanted code → consent_by c e row session wanted ≡ Refused (refusal_of row.wish code) None
  error_after_yes row session (need.Error why) code is = let R : AuthError → OpReply = λ x. Refused (refusal_of row.wish x) None in ap R is
  error_after_yes row session need.Login code is = let R : AuthError → OpReply = λ x. Refused (refusal_of row.wish x) None in ap R is
  error_after_yes row session need.Consent code is = let R : AuthError → OpReply = λ x. Refused (refusal_of row.wish x) None in ap R is
  error_after_yes row session need.Answer code is = absurd is

  error_decided : (row : TurnRow) (session : SessionRow) (agree : Bool) (code : AuthError) → ErrorAtConsent agree (need_after_yes c past e row session) code
      → decided c past e row session agree ≡ Refused (refusal_of row.wish code) None
  error_decided row session false code is = let R : AuthError → OpReply = λ x. Refused (refusal_of row.wish x) None in ap R is
  error_decided row session true code is = error_after_yes row session (need_after_yes c past e row session) code is

  pub refusal_leads : (asked : OpAsk) (refusal : Refusal) (given : Option Word) → RefusedCause c past e asked refusal given → op_reply c past e asked ≡ Refused refusal given
  refusal_leads (ask.Authorize (verdict.Refuse judged) browser presented) refusal given cause = same_refusal cause.0 (sym cause.1)
  refusal_leads (ask.Authorize (verdict.Grant wish) browser presented) refusal given cause =
      let session = live_session past e.at presented in
      let N : Need → OpReply = λ n. authorize_by c e wish (page_browser past e browser) n session in
      ap N cause.why ∙ same_refusal cause.refusal_is (sym cause.none_given)
  refusal_leads (ask.Login turn (Some user) browser presented) refusal given cause =
      let session = session_after past e user presented in
      signed_in turn user browser presented cause.row (need_after_login c past e cause.row session) cause.own refl ∙
      (error_after_login cause.row session (need_after_login c past e cause.row session) cause.code cause.why ∙ same_refusal cause.refusal_is (sym cause.given_is))
  refusal_leads (ask.Consent turn agree browser presented) refusal given cause =
      own_consent turn agree browser presented cause.row cause.session cause.own ∙
      (error_decided cause.row cause.session agree cause.code cause.why ∙ same_refusal cause.refusal_is (sym cause.none_given))
  refusal_leads other refusal given cause = absurd cause

  -- ---- error pages

  other_browser : (turn : Option Word) (signed : Option ℕ) (browser presented : Option Word) → OtherBrowser past e turn browser
      → login c past e (live_turn past e.at turn) signed browser presented ≡ ErrorPage page.Browser
  other_browser turn signed browser presented other =
      let L : Option TurnRow → OpReply = λ o. login c past e o signed browser presented in
      let B : Bool → OpReply = λ b. cond (not b) (ErrorPage page.Browser) (login_signed c past e other.row signed presented) in
      ap L other.live ∙ ap B other.other

  no_session : (turn : Option Word) (agree : Bool) (browser presented : Option Word) → NoSession past e turn
      → consent c past e (live_turn past e.at turn) agree browser presented ≡ ErrorPage page.Turn
  no_session turn agree browser presented none =
      let L : Option TurnRow → OpReply = λ o. consent c past e o agree browser presented in
      let S : Option SessionRow → OpReply = λ o. consent_in c past e none.row o agree browser presented in
      ap L none.live ∙ ap S none.ended

  other_at_consent : (turn : Option Word) (agree : Bool) (browser presented : Option Word) → OtherAtConsent past e turn browser presented
      → consent c past e (live_turn past e.at turn) agree browser presented ≡ ErrorPage page.Browser
  other_at_consent turn agree browser presented o =
      let L : Option TurnRow → OpReply = λ x. consent c past e x agree browser presented in
      let S : Option SessionRow → OpReply = λ x. consent_in c past e o.row x agree browser presented in
      let shown = other_shown (is_word browser o.row.browser) (is_turns presented o.row.session) (decided c past e o.row o.session agree) o.other in
      ap L o.live ∙ (ap S o.standing ∙ shown)

  pub error_page_leads : (asked : OpAsk) (why : PageNo) → ErrorPageCause past e asked why → op_reply c past e asked ≡ ErrorPage why
  error_page_leads (ask.Authorize (verdict.Page judged) browser presented) why cause = let P : PageNo → OpReply = λ x. ErrorPage x in ap P cause
  error_page_leads (ask.Login turn signed browser presented) page.Turn cause = let L : Option TurnRow → OpReply = λ o. login c past e o signed browser presented in ap L cause
  error_page_leads (ask.Login turn signed browser presented) page.Browser cause = other_browser turn signed browser presented cause
  error_page_leads (ask.Consent turn agree browser presented) page.Turn (inl none) = let L : Option TurnRow → OpReply = λ o. consent c past e o agree browser presented in ap L none
  error_page_leads (ask.Consent turn agree browser presented) page.Turn (inr none) = no_session turn agree browser presented none
  error_page_leads (ask.Consent turn agree browser presented) page.Browser cause = other_at_consent turn agree browser presented cause
  error_page_leads ask.Twice page.Twice cause = refl
  error_page_leads other why cause = absurd cause

  -- ---- token responses

  pub tokens_lead : (asked : OpAsk) (w : Word) (id : Text) → TokensCause c past e asked w id → op_reply c past e asked ≡ Tokens w id
  tokens_lead (ask.Token (Ok grant)) w id cause =
      let code = cause.code in
      let H : Option CodeRow → OpReply = λ o. tokens_by c e (redeem_of grant.client grant.redirect e.at o) o in
      let R : Redeem → OpReply = λ r. tokens_by c e r (Some code) in
      let client = same_number code.wish.client grant.client cause.own_client in
      let uri = (bytes_eq-Decides code.wish.redirect grant.redirect).1 cause.own_uri in
      let good = redeems (code.wish.client == grant.client) code.spent (lives code_usable code.issued e.at) (bytes_eq code.wish.redirect grant.redirect) client cause.unspent cause.usable uri in
      let I : Word → Text = λ v. issued_id c code.wish (code_authentication code) e.at (Some v) None in
      ap H cause.held ∙ (ap R good ∙ same_tokens cause.drawn (ap I cause.drawn ∙ cause.token))
  tokens_lead other w id cause = absurd cause

  not_redeemed : (r : Redeem) (found : Option CodeRow) → (r ≡ Redeemed → ⊥) → tokens_by c e r found ≡ TokenRefused InvalidGrant
  not_redeemed Redeemed found other = absurd (other refl)
  not_redeemed Unknown found other = refl
  not_redeemed OtherClient found other = refl
  not_redeemed Spent found other = refl
  not_redeemed Expired found other = refl
  not_redeemed OtherUri found other = refl

  pub token_error_leads : (asked : OpAsk) (code : TokenError) → TokenRefusedCause past e asked code → op_reply c past e asked ≡ TokenRefused code
  token_error_leads (ask.Token (Err why)) code cause = let T : TokenError → OpReply = λ x. TokenRefused x in ap T cause
  token_error_leads (ask.Token (Ok grant)) code cause =
      let T : TokenError → OpReply = λ x. TokenRefused x in
      not_redeemed (redeem past e.at grant) (held_code past e.at (word_of_text grant.code)) cause.0 ∙ ap T (sym cause.1)
  token_error_leads other code cause = absurd cause
