-- What a reply of the provider implies about the past and the `OpAsk` that led to it.
use Rattle.std.specs.Prelude.{◌≡◌, ◌≢◌, ℕ, Bool, true, false, List, [], Option, Some, None, option_map, Ok, Err, ◌⊎◌}
use Rattle.sso_base.specs.Words.{Word, Text, is_word, fresh_word, word_of_text}
use Rattle.sso_base.specs.Rows.{lives}
use Rattle.sso_base.specs.declared.history.Entry.{Entry}
use Rattle.sso_base.specs.declared.message.Message.{Message}
use Rattle.client_registry.specs.Configuration.{Configuration}
use Rattle.client_registry.specs.Numbers.{client_id}
use Rattle.claim_set.specs.Reading.{claims_text}
use Rattle.oidc_words.specs.declared.scopes.Scopes.{Scopes}
use Rattle.auth_request.specs.declared.wish.Wish.{Wish}
use Rattle.oidc_words.specs.declared.errors.Refusal.{Refusal}
use Rattle.oidc_words.specs.declared.errors.AuthError.{AuthError}
use Rattle.oidc_words.specs.declared.errors.AuthError.TheVariants.{LoginRequired, ConsentRequired, AccessDenied}
use Rattle.auth_request.specs.declared.wish.PageNo.{PageNo}
use Rattle.auth_request.specs.declared.wish.PageNo.TheVariants as page
use Rattle.auth_request.specs.declared.wish.Verdict.TheVariants as verdict
use Rattle.user_interaction.specs.declared.need.Need.{Need}
use Rattle.user_interaction.specs.declared.need.Need.TheVariants as need
use Rattle.user_interaction.specs.Need.{needed, needed_scopes}
use Rattle.auth_answer.specs.declared.answer.Answer.{Answer}
use Rattle.token_endpoint.specs.declared.granting.Grant.{Grant}
use Rattle.token_endpoint.specs.declared.error.TokenError.{TokenError}
use Rattle.token_endpoint.specs.declared.error.TokenError.TheVariants.{InvalidGrant}
use Rattle.token_endpoint.specs.Errors.{token_error}
use Rattle.userinfo.specs.declared.header.Bearer.TheVariants as bearer
use Rattle.userinfo.specs.Held.{info_members}
use Rattle.code_grant.specs.declared.rows.TurnRow.{TurnRow}
use Rattle.code_grant.specs.declared.rows.SessionRow.{SessionRow}
use Rattle.code_grant.specs.declared.rows.CodeRow.{CodeRow}
use Rattle.code_grant.specs.declared.rows.TokenRow.{TokenRow}
use Rattle.code_grant.specs.declared.redeem.Redeem.TheVariants.{Redeemed}
use Rattle.oidc_words.specs.Lives.{code_usable}
use Rattle.op_exchange.specs.declared.ask.OpAsk.{OpAsk}
use Rattle.op_exchange.specs.declared.ask.OpAsk.TheVariants as ask
use Rattle.op_exchange.specs.declared.reply.OpReply.{OpReply}
use Rattle.op_exchange.specs.declared.reply.OpReply.TheVariants.{NotHere, Full}
use Rattle.op_answer.specs.Past.{OpPast}
use Rattle.op_exchange.specs.Asks.{is_prepared}
use Rattle.op_answer.specs.Turns.{live_turn}
use Rattle.op_answer.specs.Sessions.{live_session}
use Rattle.op_answer.specs.Codes.{held_code, redeem}
use Rattle.op_answer.specs.AccessTokens.{live_access_token}
use Rattle.op_issue.specs.IdTokens.{issued_id}
use Rattle.op_answer.specs.Authentications.{session_authentication, code_authentication}
use Rattle.op_answer.specs.Replies.{refusal_of, standing_of, standing_agreed, is_turns, page_browser, session_after, sign_out_of}
use Rattle.op_issue.specs.Issued.{issued}
use Rattle.op_issue.specs.LogoutMessages.{logout_messages}
use Rattle.op_answer.specs.Room.{lacks_room}
use Rattle.op_answer.specs.Answering.{op_reply}
use Rattle.op_answer.specs.FullTables.{LacksPlace}

-- ---- every reply except NotHere and Full: reading a request can give the `OpAsk`, and there was room

abbrev pub is_own : OpReply → Bool
is_own NotHere = false
is_own Full = false
is_own other = true

pub record Stood (c : Configuration) (past : OpPast) (e : Entry OpAsk) (reply : OpReply) : Type 0 where
  pub prepared : is_prepared c e.ask ≡ true
  pub room : lacks_room past e reply ≡ false
  pub reply_is : op_reply c past e e.ask ≡ reply

-- Reading a request can give the `OpAsk`, each row that the reply makes has a place in its table, and this is its cause.
pub record Comes (c : Configuration) (past : OpPast) (e : Entry OpAsk) (reply : OpReply) (Cause : Type 0) : Type 0 where
  pub prepared : is_prepared c e.ask ≡ true
  pub placed : LacksPlace past e reply → ⊥
  pub why : Cause

-- ---- what the replies have in common

-- a form of a live turn came from the turn's own browser
pub record OwnTurn (past : OpPast) (e : Entry OpAsk) (turn browser : Option Word) (row : TurnRow) : Type 0 where
  pub live : live_turn past e.at turn ≡ Some row
  pub same_browser : is_word browser row.browser ≡ true

-- so did a consent form, with the turn's own live session
pub record OwnConsent (past : OpPast) (e : Entry OpAsk) (turn browser presented : Option Word) (row : TurnRow) (session : SessionRow) : Type 0 where
  pub own : OwnTurn past e turn browser row
  pub live : live_session past e.at row.session ≡ Some session
  pub same_session : is_turns presented row.session ≡ true

-- what an authorization request needs where this session was presented, a login form after a right password, and a consent
-- form after a yes
abbrev pub need_at_once : Configuration → OpPast → Entry OpAsk → Wish → Option SessionRow → Need
need_at_once c past e wish session = needed c wish (option_map (standing_of past wish false) session) e.at

abbrev pub need_after_login : Configuration → OpPast → Entry OpAsk → TurnRow → SessionRow → Need
need_after_login c past e row session = needed c row.wish (Some (standing_of past row.wish true session)) e.at

abbrev pub need_after_yes : Configuration → OpPast → Entry OpAsk → TurnRow → SessionRow → Need
need_after_yes c past e row session = needed c row.wish (Some (standing_agreed past row session)) e.at

-- ---- a login page: of a new turn where a login is needed, or again after a wrong password

pub record NewTurn
    (c : Configuration) (past : OpPast) (e : Entry OpAsk) (wish : Wish) (browser presented : Option Word) (w b : Word)
    (again : Bool) : Type 0 where
  pub wanted : need_at_once c past e wish (live_session past e.at presented) ≡ need.Login
  pub drawn : fresh_word e.fresh 1 ≡ w
  pub browser_is : page_browser past e browser ≡ b
  pub first : again ≡ false

pub record WrongPassword (past : OpPast) (e : Entry OpAsk) (turn browser : Option Word) (w b : Word) (again : Bool) : Type 0 where
  pub row : TurnRow
  pub own : OwnTurn past e turn browser row
  pub word_is : row.word ≡ w
  pub browser_is : row.browser ≡ b
  pub repeated : again ≡ true

abbrev pub LoginPageCause : Configuration → OpPast → Entry OpAsk → OpAsk → Word → Word → Bool → Type 0
LoginPageCause c past e (ask.Authorize (verdict.Grant wish) browser presented) w b again = NewTurn c past e wish browser presented w b again
LoginPageCause c past e (ask.Login turn None browser presented) w b again = WrongPassword past e turn browser w b again
LoginPageCause c past e other w b again = ⊥

-- ---- a consent page: at once, or after a right password

pub record ConsentAtOnce
    (c : Configuration) (past : OpPast) (e : Entry OpAsk) (wish : Wish) (browser presented : Option Word) (w b : Word)
    (given : Option Word) (client : Text) (scopes : Scopes) : Type 0 where
  pub session : SessionRow
  pub live : live_session past e.at presented ≡ Some session
  pub wanted : need_at_once c past e wish (Some session) ≡ need.Consent
  pub drawn : fresh_word e.fresh 1 ≡ w
  pub browser_is : page_browser past e browser ≡ b
  pub none_given : given ≡ None
  pub client_is : client_id c wish.client ≡ client
  pub scopes_are : needed_scopes wish ≡ scopes

pub record ConsentAfterLogin
    (c : Configuration) (past : OpPast) (e : Entry OpAsk) (turn : Option Word) (user : ℕ) (browser presented : Option Word)
    (w b : Word) (given : Option Word) (client : Text) (scopes : Scopes) : Type 0 where
  pub row : TurnRow
  pub own : OwnTurn past e turn browser row
  pub wanted : need_after_login c past e row (session_after past e user presented) ≡ need.Consent
  pub word_is : row.word ≡ w
  pub browser_is : row.browser ≡ b
  pub given_is : given ≡ Some (session_after past e user presented).word
  pub client_is : client_id c row.wish.client ≡ client
  pub scopes_are : needed_scopes row.wish ≡ scopes

abbrev pub ConsentPageCause : Configuration → OpPast → Entry OpAsk → OpAsk → Word → Word → Option Word → Text → Scopes → Type 0
ConsentPageCause c past e (ask.Authorize (verdict.Grant wish) browser presented) w b given client scopes =
    ConsentAtOnce c past e wish browser presented w b given client scopes
ConsentPageCause c past e (ask.Login turn (Some user) browser presented) w b given client scopes =
    ConsentAfterLogin c past e turn user browser presented w b given client scopes
ConsentPageCause c past e other w b given client scopes = ⊥

-- ---- a successful response: at once, after a right password, or after a yes

pub record AnsweredAtOnce
    (c : Configuration) (past : OpPast) (e : Entry OpAsk) (wish : Wish) (presented : Option Word) (answer : Answer)
    (given : Option Word) : Type 0 where
  pub session : SessionRow
  pub live : live_session past e.at presented ≡ Some session
  pub enough : need_at_once c past e wish (Some session) ≡ need.Answer
  pub answer_is : issued c wish (session_authentication session) e.at e.fresh ≡ answer
  pub none_given : given ≡ None

pub record AnsweredAfterLogin
    (c : Configuration) (past : OpPast) (e : Entry OpAsk) (turn : Option Word) (user : ℕ) (browser presented : Option Word)
    (answer : Answer) (given : Option Word) : Type 0 where
  pub row : TurnRow
  pub own : OwnTurn past e turn browser row
  pub enough : need_after_login c past e row (session_after past e user presented) ≡ need.Answer
  pub answer_is : issued c row.wish (session_authentication (session_after past e user presented)) e.at e.fresh ≡ answer
  pub given_is : given ≡ Some (session_after past e user presented).word

pub record AnsweredAfterYes
    (c : Configuration) (past : OpPast) (e : Entry OpAsk) (turn browser presented : Option Word) (answer : Answer)
    (given : Option Word) : Type 0 where
  pub row : TurnRow
  pub session : SessionRow
  pub own : OwnConsent past e turn browser presented row session
  pub enough : need_after_yes c past e row session ≡ need.Answer
  pub answer_is : issued c row.wish (session_authentication session) e.at e.fresh ≡ answer
  pub none_given : given ≡ None

abbrev pub AnsweredCause : Configuration → OpPast → Entry OpAsk → OpAsk → Answer → Option Word → Type 0
AnsweredCause c past e (ask.Authorize (verdict.Grant wish) browser presented) answer given = AnsweredAtOnce c past e wish presented answer given
AnsweredCause c past e (ask.Login turn (Some user) browser presented) answer given = AnsweredAfterLogin c past e turn user browser presented answer given
AnsweredCause c past e (ask.Consent turn true browser presented) answer given = AnsweredAfterYes c past e turn browser presented answer given
AnsweredCause c past e other answer given = ⊥

-- ---- an error response: that of the validation, at once, after a right password, or to a consent form

pub record RefusedAtOnce
    (c : Configuration) (past : OpPast) (e : Entry OpAsk) (wish : Wish) (presented : Option Word) (refusal : Refusal)
    (given : Option Word) : Type 0 where
  pub code : AuthError
  pub refusal_is : refusal_of wish code ≡ refusal
  pub none_given : given ≡ None
  pub why : need_at_once c past e wish (live_session past e.at presented) ≡ need.Error code

-- the error that a need leads to after a right password, and after a yes
abbrev pub ErrorAfterLogin : Need → AuthError → Type 0
ErrorAfterLogin (need.Error why) code = why ≡ code
ErrorAfterLogin need.Login code = LoginRequired ≡ code
ErrorAfterLogin need.Consent code = ⊥
ErrorAfterLogin need.Answer code = ⊥

abbrev pub ErrorAfterYes : Need → AuthError → Type 0
ErrorAfterYes (need.Error why) code = why ≡ code
ErrorAfterYes need.Login code = LoginRequired ≡ code
ErrorAfterYes need.Consent code = ConsentRequired ≡ code
ErrorAfterYes need.Answer code = ⊥

pub record RefusedAfterLogin
    (c : Configuration) (past : OpPast) (e : Entry OpAsk) (turn : Option Word) (user : ℕ) (browser presented : Option Word)
    (refusal : Refusal) (given : Option Word) : Type 0 where
  pub row : TurnRow
  pub own : OwnTurn past e turn browser row
  pub code : AuthError
  pub refusal_is : refusal_of row.wish code ≡ refusal
  pub why : ErrorAfterLogin (need_after_login c past e row (session_after past e user presented)) code
  pub given_is : given ≡ Some (session_after past e user presented).word

abbrev pub ErrorAtConsent : Bool → Need → AuthError → Type 0
ErrorAtConsent false wanted code = AccessDenied ≡ code
ErrorAtConsent true wanted code = ErrorAfterYes wanted code

pub record RefusedAtConsent
    (c : Configuration) (past : OpPast) (e : Entry OpAsk) (turn : Option Word) (agree : Bool) (browser presented : Option Word)
    (refusal : Refusal) (given : Option Word) : Type 0 where
  pub row : TurnRow
  pub session : SessionRow
  pub own : OwnConsent past e turn browser presented row session
  pub code : AuthError
  pub refusal_is : refusal_of row.wish code ≡ refusal
  pub why : ErrorAtConsent agree (need_after_yes c past e row session) code
  pub none_given : given ≡ None

abbrev pub RefusedCause : Configuration → OpPast → Entry OpAsk → OpAsk → Refusal → Option Word → Type 0
RefusedCause c past e (ask.Authorize (verdict.Refuse judged) browser presented) refusal given = (judged ≡ refusal) × (given ≡ None)
RefusedCause c past e (ask.Authorize (verdict.Grant wish) browser presented) refusal given = RefusedAtOnce c past e wish presented refusal given
RefusedCause c past e (ask.Login turn (Some user) browser presented) refusal given = RefusedAfterLogin c past e turn user browser presented refusal given
RefusedCause c past e (ask.Consent turn agree browser presented) refusal given = RefusedAtConsent c past e turn agree browser presented refusal given
RefusedCause c past e other refusal given = ⊥

-- ---- an error page: that of the validation, no live turn or no live session of it, another browser or session, or a repeated name

pub record OtherBrowser (past : OpPast) (e : Entry OpAsk) (turn browser : Option Word) : Type 0 where
  pub row : TurnRow
  pub live : live_turn past e.at turn ≡ Some row
  pub other : is_word browser row.browser ≡ false

pub record NoSession (past : OpPast) (e : Entry OpAsk) (turn : Option Word) : Type 0 where
  pub row : TurnRow
  pub live : live_turn past e.at turn ≡ Some row
  pub ended : live_session past e.at row.session ≡ None

-- at a consent form, of a turn whose session lives
pub record OtherAtConsent (past : OpPast) (e : Entry OpAsk) (turn browser presented : Option Word) : Type 0 where
  pub row : TurnRow
  pub live : live_turn past e.at turn ≡ Some row
  pub session : SessionRow
  pub standing : live_session past e.at row.session ≡ Some session
  pub other : (is_word browser row.browser ≡ false) ⊎ (is_turns presented row.session ≡ false)

abbrev pub ErrorPageCause : OpPast → Entry OpAsk → OpAsk → PageNo → Type 0
ErrorPageCause past e (ask.Authorize (verdict.Page judged) browser presented) why = judged ≡ why
ErrorPageCause past e (ask.Login turn signed browser presented) page.Turn = live_turn past e.at turn ≡ None
ErrorPageCause past e (ask.Login turn signed browser presented) page.Browser = OtherBrowser past e turn browser
ErrorPageCause past e (ask.Consent turn agree browser presented) page.Turn = (live_turn past e.at turn ≡ None) ⊎ NoSession past e turn
ErrorPageCause past e (ask.Consent turn agree browser presented) page.Browser = OtherAtConsent past e turn browser presented
ErrorPageCause past e ask.Twice page.Twice = Unit {0}
ErrorPageCause past e other why = ⊥

-- ---- tokens: the code is held, of this client and redirection URI, was not spent, and is usable

pub record TokensForCode (c : Configuration) (past : OpPast) (e : Entry OpAsk) (grant : Grant) (w : Word) (id : Text) : Type 0 where
  pub code : CodeRow
  pub held : held_code past e.at (word_of_text grant.code) ≡ Some code
  pub own_client : code.wish.client ≡ grant.client
  pub unspent : code.spent ≡ false
  pub usable : lives code_usable code.issued e.at ≡ true
  pub own_uri : code.wish.redirect ≡ grant.redirect
  pub drawn : fresh_word e.fresh 0 ≡ w
  pub token : issued_id c code.wish (code_authentication code) e.at (Some w) None ≡ id

abbrev pub TokensCause : Configuration → OpPast → Entry OpAsk → OpAsk → Word → Text → Type 0
TokensCause c past e (ask.Token (Ok grant)) w id = TokensForCode c past e grant w id
TokensCause c past e other w id = ⊥

-- ---- a token error response: the request could not be read, or its code is none that is good for it

abbrev pub TokenRefusedCause : OpPast → Entry OpAsk → OpAsk → TokenError → Type 0
TokenRefusedCause past e (ask.Token (Err why)) code = token_error why ≡ code
TokenRefusedCause past e (ask.Token (Ok grant)) code = (redeem past e.at grant ≢ Redeemed) × (code ≡ InvalidGrant)
TokenRefusedCause past e other code = ⊥

-- ---- a UserInfo response: the access token lives, and it is about the token's client, user, scope values and requested claims

pub record InfoForToken (c : Configuration) (past : OpPast) (e : Entry OpAsk) (w : Word) (claims : Text) : Type 0 where
  pub token : TokenRow
  pub live : live_access_token past e.at w ≡ Some token
  pub claims_are : claims_text (info_members c token.client token.user token.scopes token.asked) ≡ claims

abbrev pub InfoCause : Configuration → OpPast → Entry OpAsk → OpAsk → Text → Type 0
InfoCause c past e (ask.Info (bearer.Given w)) claims = InfoForToken c past e w claims
InfoCause c past e other claims = ⊥

-- ---- a UserInfo error response: to a request without a token, with one that is no word, or with one that does not live

abbrev pub InfoRefusedCause : OpPast → Entry OpAsk → OpAsk → Bool → Type 0
InfoRefusedCause past e (ask.Info bearer.Absent) given = given ≡ false
InfoRefusedCause past e (ask.Info bearer.Unreadable) given = given ≡ true
InfoRefusedCause past e (ask.Info (bearer.Given w)) given = (live_access_token past e.at w ≡ None) × (given ≡ true)
InfoRefusedCause past e other given = ⊥

-- ---- a sign-out: of no live session, which notifies nobody, or of the presented one, which notifies those of the clients that it has
-- answered that have a logout URI

pub record EndedSession (c : Configuration) (past : OpPast) (e : Entry OpAsk) (presented : Option Word) (messages : List Message) : Type 0 where
  pub session : SessionRow
  pub live : live_session past e.at presented ≡ Some session
  pub messages_are : logout_messages c (sign_out_of e session) session.clients ≡ messages

abbrev pub SignedOutCause : Configuration → OpPast → Entry OpAsk → OpAsk → List Message → Type 0
SignedOutCause c past e (ask.SignOut presented) messages =
    ((live_session past e.at presented ≡ None) × (messages ≡ [])) ⊎ EndedSession c past e presented messages
SignedOutCause c past e other messages = ⊥
