-- The first places of a login by code: alice begins it at the shop with browser 1, signs in at the provider and consents, the
-- browser brings the code to the shop, and the shop asks for tokens. Each place keeps all conditions, whichever is left out.
use Rattle.std.proofs.Common.{◌≡◌, [], ◌∷◌, Option, Some, None, codes, refl, arith}
use Rattle.std.specs.Str.{IsUtf8}
use Rattle.sso_base.specs.Words.{Text}
use Rattle.sso_base.specs.declared.http.Ask.{Ask}
use Rattle.sso_base.proofs.OnLiterals.{base64url_on_literals}
use Rattle.sso_base.proofs.Utf8Bytes.{IsUtf8-are_ascii}
use Rattle.hmac256.specs.Hmac.{proof_of, iterates_of, iterate_of}
use Rattle.hmac256.proofs.OnLiterals.{hmac_on_literals}
use Rattle.oidc_words.specs.Words.{parameter_words}
use Rattle.client_registry.specs.ClientSets.{no_clients}
use Rattle.request_params.proofs.OnLiterals.{request_params_on_literals}
use Rattle.token_endpoint.specs.Request.{token_message}
use Rattle.login_request.specs.Request.{login_location}
use Rattle.code_grant.specs.declared.rows.TurnRow.{TurnRow}
use Rattle.code_grant.specs.declared.rows.SessionRow.{SessionRow}
use Rattle.op_exchange.specs.Values.{IsGrantedValue}
use Rattle.op_request.specs.Prepared.{signed_user}
use Rattle.op_answer.specs.Turns.{turn_of}
use Rattle.op_answer.specs.Sessions.{session_of}
use Rattle.op_answer.proofs.FirstLogin as op
use Rattle.rp_exchange.specs.Values.{IsRpAsk}
use Rattle.rp_answer.specs.Logins.{login_of}
use Rattle.rp_answer.proofs.Sample.{word, only_code, pair_of as rp_pair}
use Rattle.rp_answer.proofs.FirstVisit as rp
use Rattle.sso_places.specs.declared.types.Jar.{Jar}
use Rattle.sso_places.specs.declared.types.To.TheVariants as to
use Rattle.sso_places.specs.declared.types.WorldAsk.TheVariants.{Http}
use Rattle.sso_places.specs.Cookies.{no_jar}
use Rattle.sso_places.specs.World.{Place, Provider, Party, World, op_past, rp_past, reply_at}
use Rattle.sso_places.proofs.SmallSite.{configuration, drawn_word, legal_entry}
use Rattle.sso_places.proofs.LoginByCode.{begins, authorizes, logs_in, consents, brings_code, redeems, authorize_entry, callback_entry, code_answer, exchange, code_text, grant, begin_is_asked, begin_is_answered, authorize_is_asked, authorize_is_answered, login_is_asked, login_is_answered, consent_is_asked, consent_is_answered, callback_is_asked, callback_is_answered, consent_legal}
use Rattle.web_requests.specs.Sending.{sent}
use Rattle.web_requests.specs.Locations.{location_of}
use Rattle.web_requests.specs.Following.{followed}
use Rattle.web_requests.specs.Posting.{login_posted, consent_posted}
use Rattle.web_requests.specs.Carrying.{carried}
use Rattle.honest_places.specs.Conditions.{Condition, right_password, Unless}
use Rattle.honest_places.specs.InTime.{IsConsentInTime, IsResponseInTime}
use Rattle.honest_places.specs.Login.{Visitor, MayLogInBut, called_for, IsHonestBut, begun, went_on}
use Rattle.honest_worlds.proofs.Building.{TurnLives, SessionLives, LoginLives, of_row, begun_stands}
use Rattle.honest_worlds.proofs.Growing.{Stands, provider_stands, party_stands}

-- ---- who logs in

-- with the password that is typed
abbrev pub typing : Text → Visitor
typing password = record { browser = 1; party = 0; user = 0; id = codes "alice"; password = password }

abbrev pub alice : Visitor
alice = typing (codes "password")

pub may_log_in : (left_out : Option Condition) (password : Text) → IsUtf8 password → Unless left_out right_password (signed_user configuration (codes "alice") password ≡ Some 0)
    → MayLogInBut left_out configuration (typing password)
unfolding parameter_words
may_log_in left_out password text right = record {
  party = omega arith;
  may_ask = λ kept. refl;
  id_text = IsUtf8-are_ascii (codes "alice") refl;
  password_text = text;
  right = right;
}

alice_signs_in : signed_user configuration (codes "alice") (codes "password") ≡ Some 0
unfolding hmac_on_literals proof_of iterates_of iterate_of
alice_signs_in = refl

pub alice_may : (left_out : Option Condition) → MayLogInBut left_out configuration alice
alice_may left_out = may_log_in left_out (codes "password") (IsUtf8-are_ascii (codes "password") refl) (λ kept. alice_signs_in)

-- ---- the places

abbrev pub asks : Place
asks = Party 0 1 (Http begins) (rp_pair rp.begin_entry rp.asked)

abbrev pub shows : Place
shows = Provider 1 authorizes (op.pair_of authorize_entry op.login_page)

abbrev pub wants : Place
wants = Provider 1 logs_in (op.pair_of op.login_entry op.consent_page)

abbrev pub answers : Place
answers = Provider 1 consents (op.pair_of op.consent_entry code_answer)

abbrev pub exchanges : Place
exchanges = Party 0 1 (Http brings_code) (rp_pair callback_entry exchange)

-- and the world after each, of which all places are of the login
abbrev pub asked : World
asked = asks ∷ []

abbrev pub shown : World
shown = shows ∷ asked

abbrev pub wanted : World
wanted = wants ∷ shown

abbrev pub answered : World
answered = answers ∷ wanted

abbrev pub exchanged : World
exchanged = exchanges ∷ answered

-- ---- they are legal

asked_stands : Stands configuration asked
asked_stands = begun_stands configuration 0 rp.asked (omega arith) begin_is_asked begin_is_answered

pub shown_stands : Stands configuration shown
shown_stands = provider_stands configuration asked 1 authorizes (op.pair_of authorize_entry op.login_page) asked_stands (record {
  asked = authorize_is_asked;
  entry = consent_legal.0.0.1;
  after_own = omega arith;
  after_all = omega arith;
  answered = authorize_is_answered;
})

wanted_stands : Stands configuration wanted
wanted_stands = provider_stands configuration shown 1 logs_in (op.pair_of op.login_entry op.consent_page) shown_stands (record {
  asked = login_is_asked;
  entry = consent_legal.0.1;
  after_own = omega arith;
  after_all = omega arith;
  answered = login_is_answered;
})

answered_stands : Stands configuration answered
answered_stands = provider_stands configuration wanted 1 consents (op.pair_of op.consent_entry code_answer) wanted_stands (record {
  asked = consent_is_asked;
  entry = consent_legal.1;
  after_own = omega arith;
  after_all = omega arith;
  answered = consent_is_answered;
})

callback_asks : IsRpAsk callback_entry.ask
callback_asks = (record { state = drawn_word (word 2) refl refl; code = IsUtf8-are_ascii code_text refl; access = tt; id = tt }, tt, drawn_word (word 1) refl refl)

pub exchanged_stands : Stands configuration exchanged
exchanged_stands = party_stands configuration answered 0 1 (Http brings_code) (rp_pair callback_entry exchange) answered_stands (record {
  known = omega arith;
  asked = callback_is_asked;
  entry = legal_entry IsRpAsk 17 callback_entry.ask refl callback_asks;
  after_own = omega arith;
  after_all = omega arith;
  answered = callback_is_answered;
})

-- the shop's token request, to which the worlds go on
pub grant_asks : IsGrantedValue grant
grant_asks = record { client = omega arith; code = IsUtf8-are_ascii code_text refl; redirect = IsUtf8-are_ascii grant.redirect refl }

-- ---- each is what the reply before it asks for

abbrev pub first_jar : Jar
first_jar = record { first = Some (word 5); second = None }

abbrev pub second_jar : Jar
second_jar = record { first = Some (word 5); second = Some (word 9) }

abbrev pub party_jar : Jar
party_jar = record { first = Some (word 1); second = None }

follows : (password : Text) → called_for configuration (typing password) no_jar [] (reply_at asks) ≡ Some (sent 1 to.Provider authorizes)
unfolding location_of followed login_location request_params_on_literals base64url_on_literals
follows password = refl

-- the login form, with the cookies of a jar
abbrev pub logs_in_with : Jar → Ask
logs_in_with jar = record logs_in { first = jar.first; second = jar.second }

pub fills_in : (jar : Jar) → called_for configuration alice jar asked (reply_at shows) ≡ Some (sent 1 to.Provider (logs_in_with jar))
unfolding login_posted request_params_on_literals base64url_on_literals
fills_in jar = refl

says_yes : called_for configuration alice second_jar shown (reply_at wants) ≡ Some (sent 1 to.Provider consents)
unfolding consent_posted request_params_on_literals base64url_on_literals
says_yes = refl

brings : called_for configuration alice party_jar wanted (reply_at answers) ≡ Some (sent 1 (to.Party 0) brings_code)
unfolding location_of followed request_params_on_literals base64url_on_literals
brings = refl

pub carries : called_for configuration alice second_jar answered (reply_at exchanges) ≡ Some (sent 0 to.Provider redeems)
unfolding carried token_message
carries = refl

-- ---- in time

module _ (left_out : Option Condition) where
  pub turn_in_time : (row : TurnRow) → turn_of (op_past shown) (Some (word 6)) ≡ Some row → TurnLives left_out 1000 row
  turn_in_time = of_row (TurnLives left_out 1000) (turn_of (op_past shown) (Some (word 6))) (λ kept. refl)

  session_in_time : (session : SessionRow) → session_of (op_past wanted) (Some (word 9)) ≡ Some session → SessionLives left_out 1000 session
  unfolding no_clients
  session_in_time = of_row (SessionLives left_out 1000) (session_of (op_past wanted) (Some (word 9))) (λ kept. refl)

  consent_in_time : (row : TurnRow) → turn_of (op_past wanted) (Some (word 6)) ≡ Some row → IsConsentInTime left_out (op_past wanted) 1000 row
  consent_in_time =
      of_row (IsConsentInTime left_out (op_past wanted) 1000) (turn_of (op_past wanted) (Some (word 6)))
      (record { turn = λ kept. refl; session = session_in_time; recent = λ session there kept. refl })

  response_in_time : IsResponseInTime left_out only_code (rp_past 0 answered) 1000 callback_entry.ask
  response_in_time = record { login = of_row (LoginLives left_out 1000) (login_of (rp_past 0 answered) (Some (word 2))) (λ kept. refl); token = λ claims is. absurd (cc) }

-- ---- so the login is honest up to each of them

module _ (left_out : Option Condition) where
  asked_honestly : (password : Text) → IsHonestBut left_out configuration (typing password) asked asked
  asked_honestly password = begun [] asks (record { jar = no_jar; asked = refl; room = λ kept. refl })

  pub shown_honestly : (password : Text) → IsHonestBut left_out configuration (typing password) shown shown
  shown_honestly password =
      went_on asked asks [] shows (asked_honestly password)
      (record { jar = no_jar; done = sent 1 to.Provider authorizes; called = follows password; asked = refl; cookies = λ kept. tt; in_time = tt; alive = tt; room = λ kept. refl })

  wanted_honestly : IsHonestBut left_out configuration alice wanted wanted
  wanted_honestly =
      went_on shown shows asked wants (shown_honestly (codes "password"))
      (record { jar = first_jar; done = sent 1 to.Provider logs_in; called = fills_in first_jar; asked = refl; cookies = λ kept. refl; in_time = turn_in_time left_out; alive = tt; room = λ kept. refl })

  answered_honestly : IsHonestBut left_out configuration alice answered answered
  answered_honestly =
      went_on wanted wants shown answers wanted_honestly
      (record { jar = second_jar; done = sent 1 to.Provider consents; called = says_yes; asked = refl; cookies = λ kept. refl; in_time = consent_in_time left_out; alive = tt; room = λ kept. refl })

  pub exchanged_honestly : IsHonestBut left_out configuration alice exchanged exchanged
  exchanged_honestly =
      went_on answered answers wanted exchanges answered_honestly
      (record { jar = party_jar; done = sent 1 (to.Party 0) brings_code; called = brings; asked = refl; cookies = λ kept. refl; in_time = response_in_time left_out; alive = λ sid is. absurd (cc); room = λ kept. refl })
