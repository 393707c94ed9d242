-- The rows that the steps of a first login make, and asks and replies that make none.
use Rattle.std.proofs.Common.{◌≡◌, false, [], Some, None, refl}
use Rattle.sso_base.specs.Words.{Text, word_of_text}
use Rattle.sso_base.specs.declared.history.Entry.{Entry}
use Rattle.code_grant.specs.declared.rows.SessionRow.{SessionRow}
use Rattle.client_registry.specs.ClientSets.{no_clients}
use Rattle.op_exchange.specs.declared.ask.OpAsk.{OpAsk}
use Rattle.op_exchange.specs.declared.ask.OpAsk.TheVariants as ask
use Rattle.op_exchange.specs.declared.reply.OpReply.{OpReply}
use Rattle.op_exchange.specs.declared.reply.OpReply.TheVariants.{Answered}
use Rattle.op_answer.specs.Sessions.{sessions, session_made}
use Rattle.op_answer.specs.Codes.{codes_issued, code_made}
use Rattle.op_answer.specs.AccessTokens.{accesses, access_made}
use Rattle.op_core.specs.Making.{wish_found, session_found, client_found, session_put, code_put, access_put}
use Rattle.op_core.proofs.MadeSessions.{session_makes}
use Rattle.op_core.proofs.MadeRows.{code_makes, access_makes}
use Rattle.op_exchange.proofs.Sample.{word, wish, sample, profile_scopes, callback_uri}
use Rattle.op_answer.proofs.FirstLogin.{entry_at, pair_of, authorize_entry, past_login, login_entry, consent_page, login_gets_consent, past_consent, consent_entry, code_answer, consent_gets_code, past_code, token_entry, tokens_reply, code_gets_tokens}
use Rattle.op_answer.proofs.Sessions.{again, alice_session, fresh_turn, alice_entry, alice_answer}

abbrev wrong_entry : Entry OpAsk
wrong_entry = entry_at 1000 9 (ask.Login (Some (word 6)) None (Some (word 5)) None)

abbrev new_session : SessionRow
new_session = record { word = word 9; sid = word 10; user = 0; auth_time = 1000; clients = no_clients }

-- ---- the wish: of the request, or of a turn within its 600 seconds

wish_of_the_request : wish_found [] 1000 authorize_entry.ask ≡ Some wish
wish_of_the_request = refl

wish_of_the_turn : wish_found past_login 1599 login_entry.ask ≡ Some wish
wish_of_the_turn = refl

no_wish_of_an_old_turn : wish_found past_login 1600 login_entry.ask ≡ None
no_wish_of_an_old_turn = refl

-- ---- the session: presented, left by a login, or the turn's

session_that_was_presented : session_found past_code (again 44199) (again 44199).ask ≡ Some alice_session
session_that_was_presented = refl

no_session_after_its_life : session_found past_code (again 44200) (again 44200).ask ≡ None
no_session_after_its_life = refl

session_of_a_login : session_found past_login login_entry login_entry.ask ≡ Some new_session
session_of_a_login = refl

no_session_of_a_wrong_password : session_found past_login wrong_entry wrong_entry.ask ≡ None
no_session_of_a_wrong_password = refl

session_of_the_turn : session_found past_consent consent_entry consent_entry.ask ≡ Some new_session
session_of_the_turn = refl

-- ---- the client: of an answer alone

client_of_an_answer : client_found past_consent consent_entry code_answer ≡ Some 0
client_of_an_answer = refl

no_client_of_a_page : client_found past_login login_entry consent_page ≡ None
no_client_of_a_page = refl

-- ---- the rows

a_login_puts_a_session : session_put past_login login_entry consent_page ≡ Some new_session
a_login_puts_a_session = refl

a_login_puts_the_session_again : session_put fresh_turn alice_entry alice_answer ≡ Some (record alice_session { auth_time = 1001 })
unfolding no_clients
a_login_puts_the_session_again = refl

a_consent_puts_no_session : session_put past_consent consent_entry code_answer ≡ None
a_consent_puts_no_session = refl

an_answer_puts_a_code : code_put past_consent consent_entry code_answer
    ≡ Some (record { word = word 15; wish = wish; user = 0; sid = word 10; auth_time = 1000; issued = 1000; spent = false; by = 2 })
an_answer_puts_a_code = refl

a_page_puts_no_code : code_put past_login login_entry consent_page ≡ None
a_page_puts_no_code = refl

tokens_put_an_access_token : (t : Text) → word_of_text t ≡ Some (word 15) → access_put past_code (token_entry 1000 t) (tokens_reply 1000)
    ≡ Some (record { word = word 21; client = 0; user = 0; scopes = profile_scopes; asked = wish.info_asked; code = Some (word 15); issued = 1000; by = 3 })
tokens_put_an_access_token t spells = rw spells refl

tokens_of_no_held_code_put_none : (t : Text) → word_of_text t ≡ Some (word 15) → access_put past_code (token_entry 4720 t) (tokens_reply 4720) ≡ None
tokens_of_no_held_code_put_none t spells = rw spells refl

abbrev token_answer : OpReply
token_answer = Answered (record { redirect = callback_uri; fragment = false; code = None; access = Some (word 20); id = None; state = None }) None

an_answer_puts_an_access_token : access_put past_consent consent_entry token_answer
    ≡ Some (record { word = word 20; client = 0; user = 0; scopes = profile_scopes; asked = wish.info_asked; code = None; issued = 1000; by = 2 })
an_answer_puts_an_access_token = refl

a_code_puts_no_access_token : access_put past_consent consent_entry code_answer ≡ None
a_code_puts_no_access_token = refl

-- ---- the laws, on those replies

the_session_is_made : session_made (sessions past_login) past_login (pair_of login_entry consent_page) ≡ session_put past_login login_entry consent_page
the_session_is_made = session_makes sample past_login login_entry consent_page login_gets_consent

the_code_is_made : code_made (codes_issued past_consent) past_consent (pair_of consent_entry code_answer) ≡ code_put past_consent consent_entry code_answer
the_code_is_made = code_makes sample past_consent consent_entry code_answer consent_gets_code

the_token_is_made : (t : Text) → word_of_text t ≡ Some (word 15)
    → access_made (accesses past_code) past_code (pair_of (token_entry 1119 t) (tokens_reply 1119)) ≡ access_put past_code (token_entry 1119 t) (tokens_reply 1119)
the_token_is_made t spells = access_makes sample past_code (token_entry 1119 t) (tokens_reply 1119) (code_gets_tokens t spells)
