-- The definitions computed at the steps of a first login: what each accepts, and what it refuses.
use Rattle.std.proofs.Common.{◌≡◌, ◌≤◌, true, false, [], ◌∷◌, Some, None, option_and_then, refl, sym, subst, arith}
use Rattle.held_rows.specs.Held.{MayAddRow}
use Rattle.sso_base.specs.Words.{Text, word_of_text}
use Rattle.sso_base.specs.Rows.{row_of}
use Rattle.oidc_words.specs.Scopes.{joined}
use Rattle.oidc_words.specs.Claims.{scopes_with_any}
use Rattle.user_interaction.specs.Need.{needed_scopes}
use Rattle.token_endpoint.specs.declared.granting.Grant.{Grant}
use Rattle.token_endpoint.specs.declared.error.TokenError.TheVariants.{InvalidGrant}
use Rattle.code_grant.specs.declared.rows.TurnRow.{TurnRow}
use Rattle.code_grant.specs.declared.rows.SessionRow.{SessionRow}
use Rattle.code_grant.specs.declared.rows.CodeRow.{CodeRow}
use Rattle.code_grant.specs.declared.rows.TokenRow.{TokenRow}
use Rattle.code_grant.specs.declared.redeem.Redeem.TheVariants.{Redeemed, Spent, Expired}
use Rattle.client_registry.specs.ClientSets.{no_clients}
use Rattle.code_grant.specs.Consents.{no_consents, with_grant}
use Rattle.code_grant.specs.Rows.{turn_name, turn_begun, session_name, session_begun}
use Rattle.code_grant.specs.Tables.{Tables, no_tables, with_room}
use Rattle.code_grant.proofs.Granting.{granted_to-none, length-no_consents}
use Rattle.op_exchange.specs.declared.ask.OpAsk.TheVariants as ask
use Rattle.op_exchange.specs.declared.reply.OpReply.TheVariants.{TokenRefused, SignedOut, Full}
use Rattle.op_answer.specs.Sessions.{sessions}
use Rattle.op_tables.specs.declared.keeping.Agreement.{Agreement}
use Rattle.op_tables.specs.Agreeing.{Agrees, IsBegun, AreOwn, is_own_turn, is_own_session, is_own_code, is_own_token}
use Rattle.op_tables.specs.Keeping.{session_taken, turn_moved, session_replaced, session_ended, ended_if, visited_if, grant_answered, code_asked, TellsRedeem, TellsRedemption, FindsCode, agreed_turn, session_in, turn_in, agreement_of, FindsAgreement, MayPut, turn_put, session_put, code_put, token_put, IsUpdate}
use Rattle.op_tables.specs.Updating.{MayUpdate}
use Rattle.op_tables.proofs.ConsentsKept.{consent_is_granted}
use Rattle.op_exchange.proofs.Sample.{word, words, wish, sample, profile_scopes, callback_uri}
use Rattle.op_answer.proofs.FirstLogin.{pair_of, login_entry, consent_page, past_consent, consent_entry, code_answer, consent_gets_code, past_code, token_entry, tokens_reply}
use Rattle.op_answer.proofs.Sessions.{alice_session, bob_entry, bob_page, alice_entry, alice_answer, sign_out_entry, message_to_shop}

-- ---- the tables before and after the consent of a first login

abbrev pub opened : TurnRow
opened = record { word = word 6; browser = word 5; wish = wish; session = None; in_turn = false; begun = 1000 }

abbrev pub taken : TurnRow
taken = record opened { session = Some (word 9); in_turn = true }

abbrev pub new_session : SessionRow
new_session = record { word = word 9; sid = word 10; user = 0; auth_time = 1000; clients = no_clients }

abbrev pub alice_code : CodeRow
alice_code = record { word = word 15; wish = wish; user = 0; sid = word 10; auth_time = 1000; issued = 1000; spent = false; by = 2 }

abbrev pub code_token : TokenRow
code_token = record { word = word 21; client = 0; user = 0; scopes = profile_scopes; asked = []; code = Some (word 15); issued = 1000; by = 3 }

abbrev pub before_consent : Tables
before_consent = with_room (record no_tables { turns = taken ∷ []; sessions = new_session ∷ [] })

abbrev pub after_consent : Tables
after_consent = record before_consent { turns = []; sessions = alice_session ∷ []; codes = alice_code ∷ []; consents = with_grant 0 0 profile_scopes no_consents }

-- ---- agreement

pub they_agree : Agrees before_consent past_consent 1000
unfolding joined
they_agree = record { turns = refl; sessions = refl; codes = refl; tokens = refl; granted = λ user client low few. granted_to-none user client }

no_agreement_without_the_turn : Agrees (record before_consent { turns = [] }) past_consent 1000 → ⊥
no_agreement_without_the_turn agrees = (let k : [] ≡ taken ∷ [] = agrees.turns in cc)

pub they_are_begun : IsBegun before_consent 1000
they_are_begun = record { turns = refl; sessions = refl; codes = refl; tokens = refl }

not_begun_one_second_before : IsBegun before_consent 999 → ⊥
not_begun_one_second_before begun = (let k : false ≡ true = begun.turns in cc)

turn_of_a_client : is_own_turn sample taken ≡ true
turn_of_a_client = refl

turn_of_no_client : is_own_turn sample (record taken { wish = record wish { client = 1 } }) ≡ false
turn_of_no_client = refl

session_of_a_user : is_own_session sample (record new_session { user = 1 }) ≡ true
session_of_a_user = refl

session_of_nobody : is_own_session sample (record new_session { user = 2 }) ≡ false
session_of_nobody = refl

code_of_a_user : is_own_code sample alice_code ≡ true
code_of_a_user = refl

code_of_nobody : is_own_code sample (record alice_code { user = 2 }) ≡ false
code_of_nobody = refl

token_of_a_user_and_a_client : is_own_token sample code_token ≡ true
token_of_a_user_and_a_client = refl

token_of_no_client : is_own_token sample (record code_token { client = 1 }) ≡ false
token_of_no_client = refl

pub they_are_own : AreOwn sample before_consent
they_are_own = record { turns = refl; sessions = refl; codes = refl; tokens = refl }

not_own_with_a_session_of_nobody : AreOwn sample (record before_consent { sessions = record new_session { user = 2 } ∷ [] }) → ⊥
not_own_with_a_session_of_nobody own = (let k : false ≡ true = own.sessions in cc)

-- ---- turns

a_login_gives_its_session : session_taken login_entry.ask consent_page ≡ Some (word 9)
a_login_gives_its_session = refl

a_consent_gives_none : session_taken consent_entry.ask code_answer ≡ None
a_consent_gives_none = refl

an_ended_turn_is_gone : turn_moved (Some (word 6)) true None before_consent ≡ record before_consent { turns = [] }
an_ended_turn_is_gone = refl

a_turn_is_taken : turn_moved (Some (word 6)) false (Some (word 9)) (record before_consent { turns = opened ∷ [] }) ≡ before_consent
a_turn_is_taken = refl

another_turn_stays : turn_moved (Some (word 7)) true None before_consent ≡ before_consent
another_turn_stays = refl

-- ---- sessions

another_session_replaces : session_replaced (Some (word 9)) (Some (word 41)) ≡ Some (word 9)
another_session_replaces = refl

the_same_replaces_none : session_replaced (Some (word 9)) (Some (word 9)) ≡ None
the_same_replaces_none = refl

a_login_of_another_user_ends_it : session_ended (bob_entry (words 41)).ask bob_page ≡ Some (word 9)
a_login_of_another_user_ends_it = refl

a_login_of_the_same_user_ends_none : session_ended alice_entry.ask alice_answer ≡ None
a_login_of_the_same_user_ends_none = refl

a_sign_out_ends_it : session_ended sign_out_entry.ask (SignedOut (message_to_shop ∷ [])) ≡ Some (word 9)
a_sign_out_ends_it = refl

an_ended_session_is_gone : ended_if (Some (word 9)) before_consent ≡ record before_consent { sessions = [] }
an_ended_session_is_gone = refl

another_session_stays : ended_if (Some (word 8)) before_consent ≡ before_consent
another_session_stays = refl

the_used_session_has_the_client : visited_if (Some (word 9)) (Some 0) before_consent ≡ record before_consent { sessions = alice_session ∷ [] }
the_used_session_has_the_client = refl

without_a_client_it_stays : visited_if (Some (word 9)) None before_consent ≡ before_consent
without_a_client_it_stays = refl

-- ---- codes

abbrev grant_for : Text → Grant
grant_for t = record { client = 0; code = t; redirect = callback_uri }

tokens_answer_a_grant : (t : Text) → grant_answered (token_entry 1119 t).ask (tokens_reply 1119) ≡ Some (grant_for t)
tokens_answer_a_grant t = refl

a_full_table_answers_none : (t : Text) → grant_answered (token_entry 1119 t).ask Full ≡ None
a_full_table_answers_none t = refl

a_code_in_time_is_spent : (t : Text) → code_asked (Some (word 15)) (grant_for t) 1119 after_consent ≡ record after_consent { codes = record alice_code { spent = true } ∷ [] }
a_code_in_time_is_spent t = refl

a_code_too_late_is_not : (t : Text) → code_asked (Some (word 15)) (grant_for t) 1120 after_consent ≡ after_consent
a_code_too_late_is_not t = refl

a_second_use_ends_its_token : (t : Text)
    → code_asked (Some (word 15)) (grant_for t) 1119 (record after_consent { codes = record alice_code { spent = true } ∷ []; tokens = code_token ∷ [] })
    ≡ record after_consent { codes = record alice_code { spent = true } ∷ [] }
a_second_use_ends_its_token t = refl

a_refusal_tells_of_no_redemption : TellsRedeem (TokenRefused InvalidGrant) Expired
a_refusal_tells_of_no_redemption = λ h. cc

a_refusal_of_a_redeemed_code : TellsRedeem (TokenRefused InvalidGrant) Redeemed → ⊥
a_refusal_of_a_redeemed_code tells = tells refl

no_reply_tells_of_a_spent_code : TellsRedeem Full Spent → ⊥
no_reply_tells_of_a_spent_code tells = (let k : true ≡ false = tells in cc)

tokens_tell_of_the_redemption : (t : Text) → word_of_text t ≡ Some (word 15) → TellsRedemption past_code 1119 (token_entry 1119 t).ask (tokens_reply 1119)
tokens_tell_of_the_redemption t spells = rw spells refl

tokens_after_two_minutes_do_not : (t : Text) → word_of_text t ≡ Some (word 15) → TellsRedemption past_code 1120 (token_entry 1120 t).ask (tokens_reply 1120) → ⊥
tokens_after_two_minutes_do_not t spells tells = (let k : Expired ≡ Redeemed = rw spells at tells in cc)

the_code_is_found : (t : Text) → word_of_text t ≡ Some (word 15) → FindsCode (alice_code ∷ []) past_code 1119 (token_entry 1119 t).ask
the_code_is_found t spells = rw spells refl

no_code_is_found_in_an_empty_table : (t : Text) → word_of_text t ≡ Some (word 15) → FindsCode [] past_code 1119 (token_entry 1119 t).ask → ⊥
no_code_is_found_in_an_empty_table t spells finds = (let k : None ≡ Some alice_code = rw spells at finds in cc)

-- ---- what users have granted

a_consent_agrees_to_its_turn : agreed_turn consent_entry.ask code_answer ≡ Some (word 6)
a_consent_agrees_to_its_turn = refl

a_denial_agrees_to_none : agreed_turn (ask.Consent (Some (word 6)) false (Some (word 5)) (Some (word 9))) code_answer ≡ None
a_denial_agrees_to_none = refl

the_turn_is_in_the_tables : turn_in before_consent (Some (word 6)) ≡ Some taken
the_turn_is_in_the_tables = refl

another_is_not : turn_in before_consent (Some (word 7)) ≡ None
another_is_not = refl

the_session_is_in_the_tables : session_in before_consent (Some (word 9)) ≡ Some new_session
the_session_is_in_the_tables = refl

no_session_is_in_the_tables : session_in before_consent None ≡ None
no_session_is_in_the_tables = refl

abbrev alice_agrees : Agreement
alice_agrees = record { user = 0; client = 0; scopes = profile_scopes }

alice_agrees_to_her_turn : agreement_of before_consent (Some taken) ≡ Some alice_agrees
unfolding needed_scopes joined scopes_with_any
alice_agrees_to_her_turn = refl

nobody_agrees_without_a_session : agreement_of before_consent (Some opened) ≡ None
nobody_agrees_without_a_session = refl

pub the_agreement_is_found : FindsAgreement before_consent past_consent consent_entry.ask code_answer
the_agreement_is_found =
    record {
      turn = refl;
      session = λ row is. (let k : taken ≡ row = cc in
          let S : TurnRow → Type 0 = λ r. session_in before_consent r.session ≡ option_and_then (λ v. row_of session_name v (sessions past_consent)) r.session in
          subst S k refl);
    }

no_agreement_is_found_in_empty_tables : FindsAgreement no_tables past_consent consent_entry.ask code_answer → ⊥
no_agreement_is_found_in_empty_tables finds = (let k : None ≡ Some taken = finds.turn in cc)

-- ---- rows that are put

a_turn_of_another_word_may_be_added : MayAddRow turn_name turn_begun true (taken ∷ []) (record opened { word = word 7 })
a_turn_of_another_word_may_be_added = record { room = refl; few = omega arith; unnamed = refl; latest = refl }

a_turn_of_that_word_may_not : MayAddRow turn_name turn_begun true (taken ∷ []) opened → ⊥
a_turn_of_that_word_may_not may = (let k : Some taken ≡ None = may.unnamed in cc)

a_session_of_that_word_may_be_put : MayPut session_name session_begun true (new_session ∷ []) alice_session
a_session_of_that_word_may_be_put = record { room = refl; few = omega arith; latest = refl }

an_earlier_one_may_not : MayPut session_name session_begun true (new_session ∷ []) (record alice_session { auth_time = 999 }) → ⊥
an_earlier_one_may_not may = (let k : false ≡ true = may.latest in cc)

a_turn_is_put_at_the_end : (turn_put (Some (record opened { word = word 7 })) before_consent).turns ≡ taken ∷ record opened { word = word 7 } ∷ []
a_turn_is_put_at_the_end = refl

no_turn_is_put : turn_put None before_consent ≡ before_consent
no_turn_is_put = refl

a_session_takes_its_place : (session_put (Some alice_session) before_consent).sessions ≡ alice_session ∷ []
a_session_takes_its_place = refl

no_session_is_put : session_put None before_consent ≡ before_consent
no_session_is_put = refl

a_code_is_put : (code_put (Some alice_code) before_consent).codes ≡ alice_code ∷ []
a_code_is_put = refl

no_code_is_put : code_put None before_consent ≡ before_consent
no_code_is_put = refl

a_token_uses_its_room : (token_put (Some code_token) before_consent).reserved ≡ record { turns = true; sessions = true; codes = true; tokens = false }
a_token_uses_its_room = refl

no_token_is_put : token_put None before_consent ≡ before_consent
no_token_is_put = refl

-- ---- one more pair

pub the_consent_is_followed : IsUpdate before_consent after_consent past_consent (pair_of consent_entry code_answer)
unfolding needed_scopes joined scopes_with_any
the_consent_is_followed =
    record {
      turns_are = refl;
      sessions_are = refl;
      codes_are = refl;
      tokens_are = refl;
      grants_are = λ user client low few.
          consent_is_granted before_consent past_consent consent_entry.ask code_answer alice_agrees refl (omega arith) length-no_consents the_agreement_is_found user client low few;
    }

an_answered_turn_does_not_stay : IsUpdate before_consent before_consent past_consent (pair_of consent_entry code_answer) → ⊥
an_answered_turn_does_not_stay follows = (let k : taken ∷ [] ≡ [] = follows.turns_are in cc)

pub the_consent_is_taken_up : MayUpdate before_consent (pair_of consent_entry code_answer) None None (Some alice_code) None (Some (word 9)) (Some 0) sample past_consent 1000
the_consent_is_taken_up =
    record {
      order = omega arith;
      agrees = they_agree;
      begun = they_are_begun;
      own = they_are_own;
      reply_is = sym consent_gets_code;
      used_is = λ n is. refl;
      client_is = refl;
      turn_is = refl;
      session_is = refl;
      code_is = refl;
      token_is = refl;
    }

not_without_its_code : MayUpdate before_consent (pair_of consent_entry code_answer) None None None None (Some (word 9)) (Some 0) sample past_consent 1000 → ⊥
not_without_its_code up = (let k : None ≡ Some alice_code = up.code_is in cc)

not_before_the_moment_of_the_tables : MayUpdate before_consent (pair_of consent_entry code_answer) None None (Some alice_code) None (Some (word 9)) (Some 0) sample past_consent 1001 → ⊥
not_before_the_moment_of_the_tables up = (let k : 1001 ≤ 1000 = up.order in absurd (omega arith))
