-- Each cause, met by a reply of the first login, and not met by another reply to the same kind of ask.
use Rattle.std.proofs.Common.{◌≡◌, inl, inr, Bool, true, false, List, [], ◌∷◌, Option, Some, None, is_some, codes, refl, sym, ◌∙◌, ap, subst}
use Rattle.sso_base.specs.Words.{Word, Text, is_word, word_of_text}
use Rattle.sso_base.specs.Rows.{lives}
use Rattle.oidc_words.specs.Lives.{code_usable}
use Rattle.oidc_words.specs.declared.scopes.Scopes.{Scopes}
use Rattle.oidc_words.specs.declared.errors.AuthError.TheVariants.{AccessDenied}
use Rattle.auth_request.specs.declared.wish.PageNo.TheVariants as page
use Rattle.auth_answer.specs.declared.answer.Answer.{Answer}
use Rattle.token_endpoint.specs.declared.error.TokenError.TheVariants.{InvalidGrant}
use Rattle.user_interaction.specs.declared.need.Need.TheVariants as need
use Rattle.user_interaction.specs.Need.{needed, needed_scopes}
use Rattle.oidc_words.specs.Scopes.{joined}
use Rattle.oidc_words.specs.Claims.{scopes_with_any}
use Rattle.code_grant.specs.declared.rows.TurnRow.{TurnRow}
use Rattle.code_grant.specs.declared.rows.SessionRow.{SessionRow}
use Rattle.code_grant.specs.declared.rows.CodeRow.{CodeRow}
use Rattle.code_grant.specs.declared.rows.TokenRow.{TokenRow}
use Rattle.client_registry.specs.ClientSets.{no_clients}
use Rattle.sso_base.specs.declared.message.Message.{Message}
use Rattle.userinfo.specs.declared.header.Bearer.TheVariants.{Absent, Given}
use Rattle.op_issue.specs.LogoutMessages.{logout_messages}
use Rattle.op_exchange.specs.declared.ask.OpAsk.TheVariants as ask
use Rattle.op_answer.specs.Sessions.{live_session}
use Rattle.op_exchange.specs.declared.reply.OpReply.{OpReply}
use Rattle.op_exchange.specs.declared.reply.OpReply.TheVariants.{ErrorPage, Info, InfoRefused, SignedOut}
use Rattle.op_answer.specs.Codes.{held_code}
use Rattle.op_answer.specs.Replies.{refusal_of, is_turns, sign_out_of}
use Rattle.op_issue.specs.IdTokens.{issued_id}
use Rattle.op_answer.specs.Causes.{Comes, Stood, need_after_yes, NewTurn, LoginPageCause, OtherAtConsent, ErrorAtConsent, ConsentPageCause, AnsweredCause, RefusedCause, ErrorPageCause, TokensCause, TokenRefusedCause, InfoCause, InfoRefusedCause, SignedOutCause}
use Rattle.op_answer.proofs.Standing.{own_replies_stand}
use Rattle.op_answer.proofs.Pages.{login_pages_have_a_cause, consent_pages_have_a_cause, error_pages_have_a_cause}
use Rattle.op_answer.proofs.Answers.{answers_have_a_cause}
use Rattle.op_answer.proofs.Refusals.{refusals_have_a_cause}
use Rattle.op_answer.proofs.TokenResponses.{tokens_have_a_cause, token_errors_have_a_cause}
use Rattle.op_exchange.proofs.Sample.{word, sample, wish, profile_scopes, callback_uri}
use Rattle.op_answer.proofs.FirstLogin.{entry_at, authorize_entry, login_page, authorize_gets_login, past_login, login_entry, login_gets_consent, past_consent, consent_entry, consent_gets_code, past_code, token_entry, signed_alice, code_gets_tokens, code_after_two_minutes, other_browser, consent_of_other_browser, past_tokens, access_token_lives, access_token_after_an_hour}
use Rattle.op_answer.proofs.Sessions.{consent_denied, hasty, alice_session, sign_out_entry, message_to_shop, alice_signs_out, past_signed_out}
use Rattle.op_answer.proofs.InfoSamples.{info_entry, alice_info, alice_is_told, nobody_is_told_after_an_hour}
use Rattle.op_answer.proofs.InfoResponses.{infos_have_a_cause, info_refusals_have_a_cause, caused_infos, caused_info_refusals}
use Rattle.op_answer.proofs.SignOuts.{sign_outs_have_a_cause, caused_sign_outs}
use Rattle.op_answer.proofs.Coming.{comes, came}
use Rattle.op_answer.proofs.Leading.{login_page_leads}
use Rattle.op_answer.specs.Answering.{op_answer}

abbrev code_given : Answer
code_given = record { redirect = callback_uri; fragment = false; code = Some (word 15); access = None; id = None; state = Some (codes "state") }

a_reply_stands : Stood sample [] authorize_entry login_page
a_reply_stands = own_replies_stand sample [] authorize_entry login_page refl authorize_gets_login

a_login_page : LoginPageCause sample [] authorize_entry authorize_entry.ask (word 6) (word 5) false
a_login_page = login_pages_have_a_cause sample [] authorize_entry (word 6) (word 5) false authorize_gets_login

a_consent_page : ConsentPageCause sample past_login login_entry login_entry.ask (word 6) (word 5) (Some (word 9)) (codes "shop-client") profile_scopes
a_consent_page = consent_pages_have_a_cause sample past_login login_entry (word 6) (word 5) (Some (word 9)) (codes "shop-client") profile_scopes login_gets_consent

an_answer : AnsweredCause sample past_consent consent_entry consent_entry.ask code_given None
an_answer = answers_have_a_cause sample past_consent consent_entry code_given None consent_gets_code

a_refusal : RefusedCause sample past_consent (entry_at 1000 13 (ask.Consent (Some (word 6)) false (Some (word 5)) (Some (word 9)))) (ask.Consent (Some (word 6)) false (Some (word 5)) (Some (word 9))) (refusal_of wish AccessDenied) None
a_refusal = refusals_have_a_cause sample past_consent (entry_at 1000 13 (ask.Consent (Some (word 6)) false (Some (word 5)) (Some (word 9)))) (refusal_of wish AccessDenied) None consent_denied

an_error_page : ErrorPageCause past_consent other_browser other_browser.ask page.Browser
an_error_page = error_pages_have_a_cause sample past_consent other_browser page.Browser consent_of_other_browser

some_tokens : (t : Text) → word_of_text t ≡ Some (word 15)
    → TokensCause sample past_code (token_entry 1119 t) (token_entry 1119 t).ask (word 21) (issued_id sample wish signed_alice 1119 (Some (word 21)) None)
some_tokens t spells =
    tokens_have_a_cause sample past_code (token_entry 1119 t) (word 21) (issued_id sample wish signed_alice 1119 (Some (word 21)) None) (code_gets_tokens t spells)

a_token_error : (t : Text) → word_of_text t ≡ Some (word 15) → TokenRefusedCause past_code (token_entry 1120 t) (token_entry 1120 t).ask InvalidGrant
a_token_error t spells = token_errors_have_a_cause sample past_code (token_entry 1120 t) InvalidGrant (code_after_two_minutes t spells)

-- ---- a cause, of an ask that a request gives and where there is a place, leads to its reply

a_login_page_comes : Comes sample [] authorize_entry login_page (LoginPageCause sample [] authorize_entry authorize_entry.ask (word 6) (word 5) false)
a_login_page_comes =
    comes sample [] authorize_entry login_page refl (LoginPageCause sample [] authorize_entry authorize_entry.ask (word 6) (word 5) false)
    (login_pages_have_a_cause sample [] authorize_entry (word 6) (word 5) false) authorize_gets_login

the_login_page_came : op_answer sample [] authorize_entry ≡ login_page
the_login_page_came =
    came sample [] authorize_entry login_page (LoginPageCause sample [] authorize_entry authorize_entry.ask (word 6) (word 5) false)
    (login_page_leads sample [] authorize_entry authorize_entry.ask (word 6) (word 5) false) a_login_page_comes

-- no request gives a login form of a third user
no_reply_where_no_request_asks : (told : OpReply) (Cause : Type 0) → Comes sample past_login (entry_at 1000 9 (ask.Login None (Some 2) None None)) told Cause → ⊥
no_reply_where_no_request_asks told Cause h = (let k : false ≡ true = h.prepared in cc)

-- ---- the turn, the session and the code that these are about

abbrev consent_turn : TurnRow
consent_turn = record { word = word 6; browser = word 5; wish = wish; session = Some (word 9); in_turn = true; begun = 1000 }

abbrev consent_session : SessionRow
consent_session = record { word = word 9; sid = word 10; user = 0; auth_time = 1000; clients = no_clients }

abbrev pub first_code : CodeRow
first_code = record { word = word 15; wish = wish; user = 0; sid = word 10; auth_time = 1000; issued = 1000; spent = false; by = 2 }

-- ---- and no cause for another reply to the same kind of ask

another_reply_does_not_stand : Stood sample [] authorize_entry (ErrorPage page.Turn) → ⊥
unfolding needed needed_scopes joined scopes_with_any no_clients
another_reply_does_not_stand h = (let k : login_page ≡ ErrorPage page.Turn = h.reply_is in cc)

-- a first login page is not one that is shown again
no_login_page_again : (w b : Word) → LoginPageCause sample [] authorize_entry authorize_entry.ask w b true → ⊥
no_login_page_again w b h = (let k : true ≡ false = h.first in cc)

-- nobody is asked for a consent who has no session
no_consent_page_of_nobody : (w b : Word) (given : Option Word) (client : Text) (scopes : Scopes)
    → ConsentPageCause sample [] authorize_entry authorize_entry.ask w b given client scopes → ⊥
no_consent_page_of_nobody w b given client scopes h = (let k : None ≡ Some h.session = h.live in cc)

no_answer_of_another_browser : AnsweredCause sample past_consent other_browser other_browser.ask code_given None → ⊥
no_answer_of_another_browser h =
    let same : consent_turn ≡ h.row = (let k : Some consent_turn ≡ Some h.row = h.own.own.live in cc) in
    let B : TurnRow → Bool = λ row. is_word (Some (word 7)) row.browser in
    let k : false ≡ true = ap B same ∙ h.own.own.same_browser in cc

-- a yes of the turn's own browser and session denies nothing
no_denial_of_a_yes : RefusedCause sample past_consent consent_entry consent_entry.ask (refusal_of wish AccessDenied) None → ⊥
unfolding needed needed_scopes joined scopes_with_any no_clients
no_denial_of_a_yes h =
    let same : consent_turn ≡ h.row = (let k : Some consent_turn ≡ Some h.row = h.own.own.live in cc) in
    let L : TurnRow → Option SessionRow = λ row. live_session past_consent 1000 row.session in
    let held : consent_session ≡ h.session = (let k : Some consent_session ≡ Some h.session = ap L same ∙ h.own.live in cc) in
    let T : TurnRow → Type 0 = λ row. ErrorAtConsent true (need_after_yes sample past_consent consent_entry row h.session) h.code in
    let S : SessionRow → Type 0 = λ session. ErrorAtConsent true (need_after_yes sample past_consent consent_entry consent_turn session) h.code in
    let none : S consent_session = subst S (sym held) (subst T (sym same) h.why) in none

no_error_page_of_the_right_browser : ErrorPageCause past_consent consent_entry consent_entry.ask page.Browser → ⊥
no_error_page_of_the_right_browser h =
    let same : consent_turn ≡ h.row = (let k : Some consent_turn ≡ Some h.row = h.live in cc) in
    let B : TurnRow → Bool = λ row. is_word (Some (word 5)) row.browser in
    let S : TurnRow → Bool = λ row. is_turns (Some (word 9)) row.session in
    elim h.other [ inl o ↦ (let k : true ≡ false = ap B same ∙ o in cc) | inr o ↦ (let k : true ≡ false = ap S same ∙ o in cc) ]

-- 120 seconds after the issue a code gets no tokens, and a second earlier no error
no_tokens_too_late : (t : Text) (w : Word) (id : Text) → word_of_text t ≡ Some (word 15) → TokensCause sample past_code (token_entry 1120 t) (token_entry 1120 t).ask w id → ⊥
no_tokens_too_late t w id spells h =
    let H : Option Word → Option CodeRow = λ o. held_code past_code 1120 o in
    let same : first_code ≡ h.code = (let k : Some first_code ≡ Some h.code = sym (ap H spells) ∙ h.held in cc) in
    let U : CodeRow → Bool = λ code. lives code_usable code.issued 1120 in
    let k : false ≡ true = ap U same ∙ h.usable in cc

no_token_error_in_time : (t : Text) → word_of_text t ≡ Some (word 15) → TokenRefusedCause past_code (token_entry 1119 t) (token_entry 1119 t).ask InvalidGrant → ⊥
no_token_error_in_time t spells h = h.0 (rw spells refl)

-- ---- where a consent is needed, no login page begins a turn

no_login_where_consent_is_needed : (w b : Word) → NewTurn sample past_consent hasty (record wish { max_age = Some 10 }) (Some (word 5)) (Some (word 9)) w b false → ⊥
unfolding needed needed_scopes joined scopes_with_any no_clients
no_login_where_consent_is_needed w b h = (let k : need.Consent ≡ need.Login = h.wanted in cc)

-- ---- a turn without a session has no page for another browser at a consent form

abbrev pub login_turn : TurnRow
login_turn = record { word = word 6; browser = word 5; wish = wish; session = None; in_turn = false; begun = 1000 }

no_other_without_a_session : (browser presented : Option Word) → OtherAtConsent past_login consent_entry (Some (word 6)) browser presented → ⊥
no_other_without_a_session browser presented h =
    let same : login_turn ≡ h.row = (let k : Some login_turn ≡ Some h.row = h.live in cc) in
    let L : TurnRow → Option SessionRow = λ row. live_session past_login 1000 row.session in
    let k : None ≡ Some h.session = ap L same ∙ h.standing in cc

-- ---- UserInfo

a_userinfo_response : (t : Text) → word_of_text t ≡ Some (word 15) → InfoCause sample (past_tokens t) (info_entry 4599 (Given (word 21))) (ask.Info (Given (word 21))) alice_info
a_userinfo_response t spells = infos_have_a_cause sample (past_tokens t) (info_entry 4599 (Given (word 21))) alice_info (alice_is_told t spells)

no_userinfo_of_a_dead_token : (t : Text) (claims : Text) → word_of_text t ≡ Some (word 15) → InfoCause sample (past_tokens t) (info_entry 4600 (Given (word 21))) (ask.Info (Given (word 21))) claims → ⊥
no_userinfo_of_a_dead_token t claims spells h = (let k : None ≡ Some h.token = sym (access_token_after_an_hour t spells) ∙ h.live in cc)

a_userinfo_error : (t : Text) → word_of_text t ≡ Some (word 15) → InfoRefusedCause (past_tokens t) (info_entry 4600 (Given (word 21))) (ask.Info (Given (word 21))) true
a_userinfo_error t spells = info_refusals_have_a_cause sample (past_tokens t) (info_entry 4600 (Given (word 21))) true (nobody_is_told_after_an_hour t spells)

no_userinfo_error_of_a_live_token : (t : Text) → word_of_text t ≡ Some (word 15) → InfoRefusedCause (past_tokens t) (info_entry 4599 (Given (word 21))) (ask.Info (Given (word 21))) true → ⊥
no_userinfo_error_of_a_live_token t spells h =
    let S : Option TokenRow → Bool = λ o. is_some o in
    let k : true ≡ false = sym (access_token_lives t spells) ∙ ap S h.0 in cc

-- ---- a sign-out

a_sign_out : SignedOutCause sample past_code sign_out_entry sign_out_entry.ask (message_to_shop ∷ [])
a_sign_out = sign_outs_have_a_cause sample past_code sign_out_entry (message_to_shop ∷ []) alice_signs_out

-- of a session that a sign-out has ended there is nobody to tell
a_sign_out_of_no_session : SignedOutCause sample past_signed_out sign_out_entry sign_out_entry.ask []
a_sign_out_of_no_session = inl (refl, refl)

-- each of these causes leads to its reply
nobody_is_left_to_tell : op_answer sample past_signed_out sign_out_entry ≡ SignedOut []
nobody_is_left_to_tell = caused_sign_outs sample past_signed_out sign_out_entry [] a_sign_out_of_no_session

the_shop_is_told : op_answer sample past_code sign_out_entry ≡ SignedOut (message_to_shop ∷ [])
the_shop_is_told = caused_sign_outs sample past_code sign_out_entry (message_to_shop ∷ []) a_sign_out

alice_is_told_again : (t : Text) → word_of_text t ≡ Some (word 15) → op_answer sample (past_tokens t) (info_entry 4599 (Given (word 21))) ≡ Info alice_info
alice_is_told_again t spells = caused_infos sample (past_tokens t) (info_entry 4599 (Given (word 21))) alice_info (a_userinfo_response t spells)

nobody_is_told : op_answer sample past_code (info_entry 1000 Absent) ≡ InfoRefused false
nobody_is_told = caused_info_refusals sample past_code (info_entry 1000 Absent) false refl

-- of a live session the client that it has answered is told
no_silent_sign_out : SignedOutCause sample past_code sign_out_entry sign_out_entry.ask [] → ⊥
unfolding logout_messages no_clients
no_silent_sign_out h =
    elim h [
      | inl gone ↦ (let k : Some alice_session ≡ None = gone.0 in cc)
      | inr ended ↦
          (let same : alice_session ≡ ended.session = (let k : Some alice_session ≡ Some ended.session = ended.live in cc) in
          let M : SessionRow → List Message = λ session. logout_messages sample (sign_out_of sign_out_entry session) session.clients in
          let k : message_to_shop ∷ [] ≡ [] = ap M same ∙ ended.messages_are in cc)
    ]
