-- Sessions at the provider: single sign-on, another user, and room, by computation.
use Rattle.std.proofs.Common.{◌≡◌, ℕ, true, false, List, [], ◌∷◌, Option, Some, None, codes, refl}
use Rattle.sso_base.specs.declared.history.Entry.{Entry}
use Rattle.auth_request.specs.declared.wish.Verdict.TheVariants.{Grant}
use Rattle.oidc_words.specs.declared.errors.AuthError.TheVariants.{LoginRequired, AccessDenied}
use Rattle.auth_request.specs.declared.wish.PageNo.TheVariants as page
use Rattle.op_exchange.specs.declared.ask.OpAsk.{OpAsk}
use Rattle.op_exchange.specs.declared.ask.OpAsk.TheVariants as ask
use Rattle.op_exchange.specs.declared.reply.OpReply.{OpReply}
use Rattle.op_exchange.specs.declared.reply.OpReply.TheVariants.{LoginPage, ConsentPage, Answered, Refused, ErrorPage, SignedOut, Full, NotHere}
use Rattle.sso_base.specs.Words.{Word, Text}
use Rattle.sso_base.specs.declared.message.Message.{Message}
use Rattle.oidc_words.specs.declared.response_types.Types.{Types}
use Rattle.op_issue.specs.IdTokens.{issued_id}
use Rattle.op_issue.specs.declared.sign_out.SignOut.{SignOut}
use Rattle.op_issue.specs.LogoutMessages.{logout_message, logout_messages}
use Rattle.op_answer.specs.Past.{OpPast}
use Rattle.code_grant.specs.declared.rows.SessionRow.{SessionRow}
use Rattle.client_registry.specs.ClientSets.{no_clients, with_client}
use Rattle.op_answer.specs.Sessions.{sessions}
use Rattle.op_answer.specs.Consents.{grant_of}
use Rattle.user_interaction.specs.Need.{needed, needed_scopes}
use Rattle.oidc_words.specs.Scopes.{joined}
use Rattle.oidc_words.specs.Claims.{scopes_with_any}
use Rattle.op_answer.specs.Answering.{op_answer}
use Rattle.op_answer.specs.Replies.{refusal_of}
use Rattle.op_exchange.proofs.Sample.{word, words, sample, wish, profile_scopes, callback_uri}
use Rattle.op_answer.proofs.FirstLogin.{entry_at, pair_of, past_login, past_consent, past_code}

-- a wrong password shows the page again
pub wrong_password : op_answer sample past_login (entry_at 1000 9 (ask.Login (Some (word 6)) None (Some (word 5)) None)) ≡ LoginPage (word 6) (word 5) true
unfolding op_answer needed needed_scopes joined scopes_with_any no_clients
wrong_password = refl

pub login_in_other_browser : op_answer sample past_login (entry_at 1000 9 (ask.Login (Some (word 6)) (Some 0) (Some (word 7)) None)) ≡ ErrorPage page.Browser
unfolding op_answer needed needed_scopes joined scopes_with_any no_clients
login_in_other_browser = refl

-- a user who isn't one of the configuration comes from no request
pub login_of_nobody : op_answer sample past_login (entry_at 1000 9 (ask.Login (Some (word 6)) (Some 2) (Some (word 5)) None)) ≡ NotHere
unfolding op_answer needed needed_scopes joined scopes_with_any no_clients
login_of_nobody = refl

pub consent_denied : op_answer sample past_consent (entry_at 1000 13 (ask.Consent (Some (word 6)) false (Some (word 5)) (Some (word 9)))) ≡ Refused (refusal_of wish AccessDenied) None
unfolding op_answer needed needed_scopes joined scopes_with_any no_clients
consent_denied = refl

-- the turn of an answer has ended
pub consent_twice : op_answer sample past_code (entry_at 1000 17 (ask.Consent (Some (word 6)) true (Some (word 5)) (Some (word 9)))) ≡ ErrorPage page.Turn
unfolding op_answer needed needed_scopes joined scopes_with_any no_clients
consent_twice = refl

-- ---- single sign-on: a second request of the same browser

abbrev pub again : ℕ → Entry OpAsk
again at = entry_at at 33 (ask.Authorize (Grant wish) (Some (word 5)) (Some (word 9)))

abbrev pub answer_again : OpReply
answer_again =
    Answered (record { redirect = callback_uri; fragment = false; code = Some (word 35); access = None; id = None; state = Some (codes "state") }) None

pub signed_on : op_answer sample past_code (again 44199) ≡ answer_again
unfolding op_answer needed needed_scopes joined scopes_with_any no_clients
signed_on = refl

-- a session lives for 43,200 seconds
pub signed_on_too_late : op_answer sample past_code (again 44200) ≡ LoginPage (word 34) (word 33) false
unfolding op_answer needed needed_scopes joined scopes_with_any no_clients
signed_on_too_late = refl

pub silent_without_session : op_answer sample [] (entry_at 1000 5 (ask.Authorize (Grant (record wish { none = true })) None None)) ≡ Refused (refusal_of wish LoginRequired) None
unfolding op_answer needed needed_scopes joined scopes_with_any no_clients
silent_without_session = refl

-- ---- the session of the answer, which has its client

abbrev pub alice_session : SessionRow
alice_session = record { word = word 9; sid = word 10; user = 0; auth_time = 1000; clients = with_client 0 no_clients }

pub one_session : sessions past_code ≡ alice_session ∷ []
one_session = refl

-- ---- a sign-out tells the client that the session has answered, and ends the session

abbrev pub sign_out_entry : Entry OpAsk
sign_out_entry = entry_at 1001 29 (ask.SignOut (Some (word 9)))

abbrev pub alice_out : SignOut
alice_out = record { who = record { user = 0; sid = word 10; auth_time = 1000 }; at = 1001; word = word 29 }

abbrev pub message_to_shop : Message
message_to_shop = logout_message sample alice_out 0 (codes "http://127.0.0.1:8081/logout")

pub alice_signs_out : op_answer sample past_code sign_out_entry ≡ SignedOut (message_to_shop ∷ [])
unfolding op_answer logout_messages no_clients
alice_signs_out = refl

abbrev pub past_signed_out : OpPast
past_signed_out = pair_of sign_out_entry (SignedOut (message_to_shop ∷ [])) ∷ past_code

pub no_session_is_left : sessions past_signed_out ≡ []
no_session_is_left = refl

-- one that answered nobody tells nobody
pub signs_out_of_no_client : op_answer sample past_consent sign_out_entry ≡ SignedOut []
unfolding op_answer logout_messages no_clients
signs_out_of_no_client = refl

-- nor does one without a live session
pub signs_out_again : op_answer sample past_signed_out sign_out_entry ≡ SignedOut []
unfolding op_answer
signs_out_again = refl

pub signs_out_without_a_session : op_answer sample past_code (entry_at 1001 29 (ask.SignOut None)) ≡ SignedOut []
unfolding op_answer
signs_out_without_a_session = refl

-- ---- the other response types

abbrev pub typed_entry : Types → Entry OpAsk
typed_entry types = entry_at 1001 29 (ask.Authorize (Grant (record wish { types = types })) (Some (word 5)) (Some (word 9)))

abbrev pub typed_id : Types → Option Word → Option Word → Option Text
typed_id types access code = Some (issued_id sample (record wish { types = types }) alice_out.who 1001 access code)

abbrev pub typed_answer : Option Word → Option Word → Option Text → OpReply
typed_answer code access id = Answered (record { redirect = callback_uri; fragment = true; code = code; access = access; id = id; state = Some (codes "state") }) None

abbrev pub code_id_token : Types
code_id_token = record { code = true; id_token = true; token = false }

pub a_code_and_an_id_token : op_answer sample past_code (typed_entry code_id_token) ≡ typed_answer (Some (word 31)) None (typed_id code_id_token None (Some (word 31)))
unfolding op_answer needed needed_scopes joined scopes_with_any no_clients
a_code_and_an_id_token = refl

abbrev pub only_id_token : Types
only_id_token = record { code = false; id_token = true; token = false }

pub an_id_token_alone : op_answer sample past_code (typed_entry only_id_token) ≡ typed_answer None None (typed_id only_id_token None None)
unfolding op_answer needed needed_scopes joined scopes_with_any no_clients
an_id_token_alone = refl

abbrev pub code_token : Types
code_token = record { code = true; id_token = false; token = true }

pub a_code_and_an_access_token : op_answer sample past_code (typed_entry code_token) ≡ typed_answer (Some (word 31)) (Some (word 32)) None
unfolding op_answer needed needed_scopes joined scopes_with_any no_clients
a_code_and_an_access_token = refl

abbrev pub all_three : Types
all_three = record { code = true; id_token = true; token = true }

pub all_three_are_answered : op_answer sample past_code (typed_entry all_three) ≡ typed_answer (Some (word 31)) (Some (word 32)) (typed_id all_three (Some (word 32)) (Some (word 31)))
unfolding op_answer needed needed_scopes joined scopes_with_any no_clients
all_three_are_answered = refl

-- ---- another user logs in where alice's session is presented

abbrev pub login_asked : Entry OpAsk
login_asked = entry_at 1000 37 (ask.Authorize (Grant (record wish { login = true })) (Some (word 5)) (Some (word 9)))

abbrev pub login_again : OpReply
login_again = LoginPage (word 38) (word 37) false

pub login_is_shown : op_answer sample past_code login_asked ≡ login_again
unfolding op_answer needed needed_scopes joined scopes_with_any no_clients
login_is_shown = refl

abbrev pub fresh_turn : OpPast
fresh_turn = pair_of login_asked login_again ∷ past_code

abbrev pub bob_entry : List Word → Entry OpAsk
bob_entry fresh = record { at = 1001; fresh = fresh; ask = ask.Login (Some (word 38)) (Some 1) (Some (word 37)) (Some (word 9)) }

abbrev pub bob_page : OpReply
bob_page = ConsentPage (word 38) (word 37) (Some (word 41)) (codes "shop-client") profile_scopes

pub bob_gets_new_session : op_answer sample fresh_turn (bob_entry (words 41)) ≡ bob_page
unfolding op_answer needed needed_scopes joined scopes_with_any no_clients
bob_gets_new_session = refl

abbrev pub bob_session : SessionRow
bob_session = record { word = word 41; sid = word 42; user = 1; auth_time = 1001; clients = no_clients }

pub only_bob_is_left : sessions (pair_of (bob_entry (words 41)) bob_page ∷ fresh_turn) ≡ bob_session ∷ []
only_bob_is_left = refl

-- a fresh word that a held session has changes nothing, also where it is the presented one
pub session_word_drawn_again : op_answer sample fresh_turn (bob_entry (words 9)) ≡ Full
unfolding op_answer needed needed_scopes joined scopes_with_any no_clients
session_word_drawn_again = refl

-- a fresh word of a live turn
pub turn_word_drawn_again : op_answer sample past_login (entry_at 1000 5 (ask.Authorize (Grant wish) None None)) ≡ Full
unfolding op_answer needed needed_scopes joined scopes_with_any no_clients
turn_word_drawn_again = refl

-- alice herself keeps her session, which is renewed
abbrev pub alice_entry : Entry OpAsk
alice_entry = record { at = 1001; fresh = words 41; ask = ask.Login (Some (word 38)) (Some 0) (Some (word 37)) (Some (word 9)) }

abbrev pub alice_answer : OpReply
alice_answer =
    Answered (record { redirect = callback_uri; fragment = false; code = Some (word 43); access = None; id = None; state = Some (codes "state") }) (Some (word 9))

pub alice_is_answered : op_answer sample fresh_turn alice_entry ≡ alice_answer
unfolding op_answer needed needed_scopes joined scopes_with_any no_clients
alice_is_answered = refl

abbrev pub past_renewed : OpPast
past_renewed = pair_of alice_entry alice_answer ∷ fresh_turn

abbrev pub renewed_session : SessionRow
renewed_session = record alice_session { auth_time = 1001 }

pub alice_is_renewed : sessions past_renewed ≡ renewed_session ∷ []
unfolding no_clients
alice_is_renewed = refl

-- ---- a consent page without a login form: a consent that comes too late asks for a login, and is remembered

abbrev pub hasty : Entry OpAsk
hasty = entry_at 1005 13 (ask.Authorize (Grant (record wish { max_age = Some 10 })) (Some (word 5)) (Some (word 9)))

abbrev pub hasty_page : OpReply
hasty_page = ConsentPage (word 14) (word 5) None (codes "shop-client") profile_scopes

pub hasty_gets_consent_page : op_answer sample past_consent hasty ≡ hasty_page
unfolding op_answer needed needed_scopes joined scopes_with_any no_clients
hasty_gets_consent_page = refl

abbrev pub past_hasty : OpPast
past_hasty = pair_of hasty hasty_page ∷ past_consent

abbrev pub slow_consent : Entry OpAsk
slow_consent = entry_at 1011 17 (ask.Consent (Some (word 14)) true (Some (word 5)) (Some (word 9)))

abbrev pub slow_refusal : OpReply
slow_refusal = Refused (refusal_of wish LoginRequired) None

pub slow_consent_needs_login : op_answer sample past_hasty slow_consent ≡ slow_refusal
unfolding op_answer needed needed_scopes joined scopes_with_any no_clients
slow_consent_needs_login = refl

pub slow_consent_is_remembered : grant_of (pair_of slow_consent slow_refusal ∷ past_hasty) 0 0 ≡ profile_scopes
unfolding needed_scopes joined scopes_with_any
slow_consent_is_remembered = refl
