-- A table of each kind that has no place for a row, by computation: a word that was drawn before. And one that has.
use Rattle.std.proofs.Common.{◌≡◌, inl, inr, Bool, true, false, [], ◌∷◌, codes, Option, Some, None, refl, sym, ap, ◌∙◌}
use Rattle.sso_base.specs.Words.{Word, Text, is_word, word_of_text}
use Rattle.sso_base.specs.declared.history.Entry.{Entry}
use Rattle.auth_request.specs.declared.wish.Wish.{Wish}
use Rattle.auth_request.specs.declared.wish.Verdict.TheVariants.{Grant}
use Rattle.code_grant.specs.declared.rows.TurnRow.{TurnRow}
use Rattle.code_grant.specs.declared.rows.CodeRow.{CodeRow}
use Rattle.code_grant.specs.declared.rows.TokenRow.{TokenRow}
use Rattle.code_grant.specs.Rows.{turn_name, code_name, access_name}
use Rattle.client_registry.specs.ClientSets.{no_clients}
use Rattle.user_interaction.specs.Need.{needed, needed_scopes}
use Rattle.oidc_words.specs.Scopes.{joined}
use Rattle.oidc_words.specs.Claims.{scopes_with_any}
use Rattle.op_exchange.specs.declared.ask.OpAsk.{OpAsk}
use Rattle.op_exchange.specs.declared.ask.OpAsk.TheVariants as ask
use Rattle.op_exchange.specs.declared.reply.OpReply.{OpReply}
use Rattle.op_exchange.specs.declared.reply.OpReply.TheVariants.{Full, Answered}
use Rattle.held_rows.proofs.Places.{place_beside_none}
use Rattle.op_answer.specs.Past.{OpPast}
use Rattle.op_answer.specs.AccessTokens.{access_issued}
use Rattle.op_answer.specs.Answering.{op_reply, op_answer}
use Rattle.op_answer.specs.Causes.{Comes}
use Rattle.op_answer.specs.FullTables.{NoTurnPlace, NoSessionPlace, NoCodePlace, NoAccessPlace, FullCause}
use Rattle.op_answer.proofs.FullTables.{cause_makes_full}
use Rattle.op_answer.proofs.FirstLogin.{entry_at, pair_of, login_page, authorize_entry, authorize_gets_login, past_login, past_consent, consent_entry, past_code, token_entry, past_tokens}
use Rattle.op_answer.proofs.Sessions.{fresh_turn, bob_entry, alice_session, alice_entry, alice_answer}
use Rattle.op_exchange.proofs.Sample.{word, words, sample, callback_uri, wish}

-- ---- a turn: its word is that of a live one

abbrev turn_again : Entry OpAsk
turn_again = entry_at 1000 5 (ask.Authorize (Grant wish) None None)

abbrev login_turn : TurnRow
login_turn = record { word = word 6; browser = word 5; wish = wish; session = None; in_turn = false; begun = 1000 }

turn_has_no_place : NoTurnPlace past_login turn_again (op_reply sample past_login turn_again turn_again.ask)
unfolding needed needed_scopes joined scopes_with_any no_clients
turn_has_no_place = record { begins = refl; full = inr (login_turn, refl) }

turns_have_no_place : FullCause sample past_login turn_again
turns_have_no_place = record { prepared = refl; no_place = inl turn_has_no_place }

-- so the page does not come, whatever its cause
no_page_without_a_place : (Cause : Type 0) → Comes sample past_login turn_again (op_reply sample past_login turn_again turn_again.ask) Cause → ⊥
no_page_without_a_place Cause h = h.placed (inl turn_has_no_place)

-- ---- a session: its word is that of the presented one, which stays then

session_has_no_place : NoSessionPlace fresh_turn (bob_entry (words 9)) (op_reply sample fresh_turn (bob_entry (words 9)) (bob_entry (words 9)).ask)
unfolding needed needed_scopes joined scopes_with_any no_clients
session_has_no_place = record {
  turn = Some (word 38);
  user = 1;
  browser = Some (word 37);
  presented = Some (word 9);
  asked = refl;
  unheld = refl;
  left = refl;
  full = inr (alice_session, refl);
}

sessions_have_no_place : FullCause sample fresh_turn (bob_entry (words 9))
sessions_have_no_place = record { prepared = refl; no_place = inr (inl session_has_no_place) }

-- ---- a code: the third word of this entry is the first code's

abbrev code_again : Entry OpAsk
code_again = entry_at 1001 13 (ask.Authorize (Grant wish) (Some (word 5)) (Some (word 9)))

abbrev first_code : CodeRow
first_code = record { word = word 15; wish = wish; user = 0; sid = word 10; auth_time = 1000; issued = 1000; spent = false; by = 2 }

code_has_no_place : NoCodePlace past_code code_again (op_reply sample past_code code_again code_again.ask)
unfolding needed needed_scopes joined scopes_with_any no_clients
code_has_no_place = record { given = refl; full = inr (first_code, refl) }

codes_have_no_place : FullCause sample past_code code_again
codes_have_no_place = record { prepared = refl; no_place = inr (inr (inl code_has_no_place)) }

code_word_drawn_again : op_answer sample past_code code_again ≡ Full
code_word_drawn_again = cause_makes_full sample past_code code_again codes_have_no_place

-- ---- an access token: the fourth word of this entry is the first access token's

abbrev token_wish : Wish
token_wish = record wish { types = record { code = false; id_token = true; token = true } }

abbrev access_again : Entry OpAsk
access_again = entry_at 1001 18 (ask.Authorize (Grant token_wish) (Some (word 5)) (Some (word 9)))

abbrev first_access : TokenRow
first_access = access_issued 3 1000 (word 21) (Some (word 15)) wish 0

access_has_no_place : (t : Text) → word_of_text t ≡ Some (word 15) → NoAccessPlace (past_tokens t) access_again (op_reply sample (past_tokens t) access_again access_again.ask)
unfolding needed needed_scopes joined scopes_with_any no_clients
access_has_no_place t spells = record { word = word 21; drawn = inl refl; given = refl; full = inr (first_access, rw spells refl) }

accesses_have_no_place : (t : Text) → word_of_text t ≡ Some (word 15) → FullCause sample (past_tokens t) access_again
accesses_have_no_place t spells = record { prepared = refl; no_place = inr (inr (inr (access_has_no_place t spells))) }

-- ---- a first turn

-- before any request there is room
the_first_turn_has_a_place : FullCause sample [] authorize_entry → ⊥
the_first_turn_has_a_place cause = (let k : Full ≡ login_page = sym (cause_makes_full sample [] authorize_entry cause) ∙ authorize_gets_login in cc)

-- ---- and no cause where there is a place: beside no row, beside the row that is renewed, and where no request gives the ask

a_turn_has_a_place : (told : OpReply) → NoTurnPlace [] authorize_entry told → ⊥
a_turn_has_a_place told h = place_beside_none turn_name (word 6) h.full

a_renewed_session_has_its_place : NoSessionPlace fresh_turn alice_entry alice_answer → ⊥
a_renewed_session_has_its_place h =
    let G : Option Word → Bool = λ given. is_word given (word 9) in
    let k : true ≡ false = ap G h.left in
    cc

a_code_has_a_place : (told : OpReply) → NoCodePlace past_consent consent_entry told → ⊥
a_code_has_a_place told h = place_beside_none code_name (word 15) h.full

an_access_token_has_a_place : (told : OpReply) → NoAccessPlace past_code access_again told → ⊥
an_access_token_has_a_place told h = place_beside_none access_name h.word h.full

not_full_where_no_request_asks : FullCause sample past_login (entry_at 1000 5 (ask.Login None (Some 2) None None)) → ⊥
not_full_where_no_request_asks cause = (let k : false ≡ true = cause.prepared in cc)

-- an access token that a code would give: the first word of this entry is that of a token of a response

abbrev past_access : OpPast
past_access = pair_of access_again (Answered (record { redirect = callback_uri; fragment = true; code = None; access = Some (word 21); id = None; state = Some (codes "state") }) None) ∷ past_code

code_token_has_no_place : (t : Text) → word_of_text t ≡ Some (word 15) → NoAccessPlace past_access (token_entry 1002 t) (op_reply sample past_access (token_entry 1002 t) (token_entry 1002 t).ask)
code_token_has_no_place t spells = record { word = word 21; drawn = inr refl; given = rw spells refl; full = inr (access_issued 3 1001 (word 21) None token_wish 0, refl) }
