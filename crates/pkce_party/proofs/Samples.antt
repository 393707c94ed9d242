-- The verifiers of a first login by code, and what is added to its replies, computed. What is spelled and hashed stays closed.
use Rattle.std.proofs.Common.{◌≡◌, ◌≤◌, true, [], ◌∷◌, Some, None, codes, refl, ◌∙◌, ap, arith}
use Rattle.sso_base.specs.Words.{Text, word_text}
use Rattle.sso_base.specs.Legal.{IsLegalBy}
use Rattle.sso_base.specs.Journal.{history_weight}
use Rattle.sso_base.specs.declared.message.Message.{Message}
use Rattle.rp_login.specs.Tables.{no_tables}
use Rattle.rp_exchange.specs.declared.no.RpNo.TheVariants as no
use Rattle.rp_exchange.specs.declared.reply.RpReply.TheVariants as reply
use Rattle.rp_exchange.specs.Values.{IsRpAsk}
use Rattle.rp_exchange.specs.Weight.{ask_weight}
use Rattle.rp_answer.specs.Past.{RpPair}
use Rattle.rp_answer.specs.Answering.{rp_answer}
use Rattle.rp_answer.proofs.Sample.{word, words, pair_of, only_code, id_and_token, shop_setup}
use Rattle.rp_answer.proofs.FirstVisit.{begin_entry, asked, past_begin, callback_entry, exchange, past_callback}
use Rattle.rp_answer.proofs.Legality.{entered_is_legal}
use Rattle.rp_answer.specs.Legal.{IsLegalRp}
use Rattle.sso_base.proofs.RowLaws.{bytes_true}
use Rattle.rp_core.specs.Relying.{Relying}
use Rattle.pkce_answer.specs.Challenges.{challenge_of}
use Rattle.pkce_party.specs.declared.known.Known.{Known}
use Rattle.pkce_party.specs.declared.reply.PartyReply.{PartyReply}
use Rattle.pkce_party.specs.declared.rows.VerifierRow.{VerifierRow}
use Rattle.pkce_party.specs.Verifiers.{verifiers, word_held}
use Rattle.pkce_party.specs.Adding.{PartyPair, party_reply, party_answer, inner_history, IsLegalParty}
use Rattle.pkce_party.specs.Keeping.{pairs_of, known_of, KeepsVerifiers}
use Rattle.pkce_party.specs.Noting.{ended_rows, noted, MayAddVerifier}
use Rattle.pkce_party.specs.Telling.{challenge_added, verifier_added, verified, party_sending}
use Rattle.pkce_party.specs.Laws.{IsOfLogin}
use Rattle.pkce_party.proofs.Pairing.{past_with, past_is_legal, pairs_are_legal}
use Rattle.pkce_party.proofs.Requesting.{of_its_login}

abbrev begin_pair : RpPair
begin_pair = pair_of begin_entry asked

abbrev callback_pair : RpPair
callback_pair = pair_of (callback_entry 1000 (word 1)) exchange

abbrev row : VerifierRow
row = record { state = word 2; word = word 4; begun = 1000 }

-- ---- the verifier of a login

verifiers-after_an_authorization_request : verifiers past_begin ≡ row ∷ []
verifiers-after_an_authorization_request = refl

verifiers-after_the_response : verifiers past_callback ≡ []
verifiers-after_the_response = refl

verifiers-after_the_response_from_another_browser : verifiers (pair_of (callback_entry 1000 (word 5)) (reply.Refused no.WrongBrowser) ∷ past_begin) ≡ row ∷ []
verifiers-after_the_response_from_another_browser = refl

held-while_the_login_lives : word_held past_begin 1599 (callback_entry 1599 (word 1)).ask ≡ Some (word 4)
held-while_the_login_lives = refl

held-after_ten_minutes : word_held past_begin 1600 (callback_entry 1600 (word 1)).ask ≡ None
held-after_ten_minutes = refl

they_agree : KeepsVerifiers past_begin (row ∷ [])
they_agree = record { agrees = refl; begun = refl }

they_do_not_agree-without_the_row : KeepsVerifiers past_begin [] → ⊥
they_do_not_agree-without_the_row keeps = (let k : [] ≡ row ∷ [] = keeps.agrees in cc)

-- ---- one more reply

abbrev known_begin : Known
known_begin = known_of [] 1000 (words 1) begin_entry.ask

known-of_a_request_to_begin : known_begin.drawn ≡ Some row
known-of_a_request_to_begin = refl

noted-the_row : noted known_begin asked [] ≡ row ∷ []
noted-the_row = refl

ended-the_row : ended_rows true (Some (word 2)) (row ∷ []) ≡ []
ended-the_row = refl

ended-no_other_row : ended_rows true (Some (word 3)) (row ∷ []) ≡ row ∷ []
ended-no_other_row = refl

may_be_added : MayAddVerifier [] row
may_be_added = record { few = omega arith; unnamed = refl; latest = refl }

may_not_be_added-twice : MayAddVerifier (row ∷ []) row → ⊥
may_not_be_added-twice may = (let k : Some row ≡ None = may.unnamed in cc)

-- ---- the additions

challenge-of_an_authorization_request : (party_reply only_code [] begin_entry asked).challenge ≡ Some (challenge_of (word_text (word 4)))
challenge-of_an_authorization_request = refl

challenge-of_no_code : (party_reply id_and_token [] begin_entry asked).challenge ≡ None
challenge-of_no_code = refl

verifier-of_a_token_request : (party_reply only_code past_begin (callback_entry 1000 (word 1)) exchange).verifier ≡ Some (word_text (word 4))
verifier-of_a_token_request = refl

nothing-with_another_reply : party_reply only_code past_begin begin_entry reply.NotHere ≡ record { inner = reply.NotHere; challenge = None; verifier = None }
nothing-with_another_reply = refl

answer-to_a_request_to_begin : party_answer shop_setup [] begin_entry
    ≡ record { inner = asked; challenge = Some (challenge_of (word_text (word 4))); verifier = None }
unfolding rp_answer
answer-to_a_request_to_begin = refl

-- ---- a legal history

callback_is_legal : IsLegalRp shop_setup past_callback
callback_is_legal = (entered_is_legal (word_text (word 3)) (bytes_true (word_text (word 3)) (word_text (word 3)) refl)).0

past_is_legal-of_a_first_login : IsLegalBy IsRpAsk (party_answer shop_setup) (past_with only_code past_callback)
past_is_legal-of_a_first_login = past_is_legal shop_setup past_callback callback_is_legal

without_a_challenge-is_not_legal : IsLegalBy IsRpAsk (party_answer shop_setup)
    ((record { entry = begin_entry; reply = record { inner = asked; challenge = None; verifier = None } }) ∷ []) → ⊥
without_a_challenge-is_not_legal legal =
    let told = ap (λ (r : PartyReply). r.challenge) legal.3 ∙ ap (λ (r : PartyReply). r.challenge) answer-to_a_request_to_begin in
    let k : None ≡ Some (challenge_of (word_text (word 4))) = told in cc

abbrev party : Relying
party = record { setup = shop_setup; history = begin_pair ∷ callback_pair ∷ []; tables = no_tables }

history_is_legal : IsLegalParty shop_setup (pairs_of party)
history_is_legal = pairs_are_legal party callback_is_legal (let light : history_weight ask_weight party.history ≤ 268435456 = omega arith in light)

history_inside : inner_history (pairs_of party) ≡ begin_pair ∷ callback_pair ∷ []
history_inside = refl

abbrev begun : PartyPair
begun = record { entry = begin_entry; reply = party_reply only_code [] begin_entry asked }

abbrev exchanged : PartyPair
exchanged = record { entry = callback_entry 1000 (word 1); reply = party_reply only_code past_begin (callback_entry 1000 (word 1)) exchange }

-- the verifier of its token request is the one whose challenge its authorization request had
verifier-of_its_login : IsOfLogin (begun ∷ []) exchanged.entry (word_text (word 4))
verifier-of_its_login = of_its_login shop_setup (pairs_of party) [] (begun ∷ []) exchanged (word_text (word 4)) history_is_legal.past refl refl

-- ---- what is sent

location-of_an_authorization_request : challenge_added (codes "abc") (codes "http://op/authorize?scope=openid")
    ≡ codes "http://op/authorize?scope=openid&code_challenge=abc&code_challenge_method=S256"
location-of_an_authorization_request = refl

body-of_a_token_request : verifier_added (codes "abc") (codes "grant_type=authorization_code") ≡ codes "grant_type=authorization_code&code_verifier=abc"
body-of_a_token_request = refl

nothing-is_added_to_a_message : (message : Message) → verified None message ≡ message
nothing-is_added_to_a_message message = refl

sent-after_no_request : (challenge : Text) → party_sending (record { inner = reply.Nobody; challenge = Some challenge; verifier = None }) ≡ None
sent-after_no_request challenge = refl
