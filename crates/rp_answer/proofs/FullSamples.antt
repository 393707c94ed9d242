-- A table of each kind that has no place for a row, by computation, and one that has.
use Rattle.std.proofs.Common.{◌≡◌, true, false, [], None, Err, codes, refl, sym, ◌∙◌, inl, inr}
use Rattle.std.specs.Str.{bytes_eq}
use Rattle.sso_base.specs.Words.{Text, word_text}
use Rattle.held_rows.proofs.Places.{place_beside_none}
use Rattle.id_token.specs.HalfHash.{half_hash_of}
use Rattle.auth_answer.specs.declared.no.AnswerNo.TheVariants as answer_no
use Rattle.token_endpoint.specs.Request.{token_message}
use Rattle.login_request.specs.Request.{login_location}
use Rattle.rp_login.specs.Rows.{login_name, pending_name, visit_name, seen_name}
use Rattle.rp_login.specs.declared.table.RpTable.{RpTable}
use Rattle.rp_login.specs.declared.table.RpTable.TheVariants as table
use Rattle.rp_exchange.specs.declared.ask.RpAsk.TheVariants as ask
use Rattle.rp_exchange.specs.declared.no.RpNo.TheVariants as no
use Rattle.rp_exchange.specs.declared.reply.RpReply.{RpReply}
use Rattle.rp_exchange.specs.declared.reply.RpReply.TheVariants.{Ended, Refused}
use Rattle.rp_answer.specs.Causes.{Comes, AskCause}
use Rattle.rp_answer.specs.FullTables.{NoLoginPlace, NoPendingPlace, NoSessionPlace, NoSeenPlace, LacksPlace, FullCause}
use Rattle.rp_answer.specs.Answering.{rp_answer}
use Rattle.rp_answer.proofs.Answers.{asks_have_a_cause}
use Rattle.rp_answer.proofs.Coming.{comes, came}
use Rattle.rp_answer.proofs.Told.{ask_leads}
use Rattle.rp_answer.proofs.FullTables.{full_has_a_cause, cause_makes_full}
use Rattle.rp_answer.proofs.Sample.{word, entry_at, op, only_code, shop_client, shop, shop_uri, shop_setup, news_setup}
use Rattle.rp_answer.proofs.FirstVisit.{begin_entry, asked, begin_asks, past_begin, callback_entry, exchange, past_callback, tokens_entry}
use Rattle.rp_answer.proofs.FrontLogin.{with_hash, waiting}
use Rattle.rp_answer.proofs.EachRefusal.{past_second, second_callback, exchange_drawn_again, past_two_front, second_front, session_drawn_again}
use Rattle.rp_answer.proofs.LoggedOut.{logout_at, past_out, later, seen}
use Rattle.rp_answer.proofs.RowSamples.{login}

-- ---- a word that was drawn before, or a `jti` that is remembered

state_has_no_place : NoLoginPlace past_begin begin_entry asked
state_has_no_place = record { to = login_location shop_client shop op (word 2) (word 3); browser = word 1; begins = refl; full = inr (login, refl) }

logins_have_no_place : FullCause shop_setup past_begin begin_entry table.Logins
logins_have_no_place = record { prepared = refl; no_place = state_has_no_place }

state_is_drawn_again : rp_answer shop_setup past_begin begin_entry ≡ Refused (no.Full table.Logins)
state_is_drawn_again = cause_makes_full shop_setup past_begin begin_entry table.Logins logins_have_no_place

-- so the request does not come, whatever its cause
no_request_without_a_place : (Cause : Type 0) → Comes shop_setup past_begin begin_entry asked Cause → ⊥
no_request_without_a_place Cause h = h.placed table.Logins state_has_no_place

exchange_has_no_place : NoPendingPlace only_code past_callback (callback_entry 1000 (word 1)) exchange
exchange_has_no_place = record { word = word 17; message = token_message shop_client op.token (codes "code") shop_uri; sent = inl refl; full = inr (waiting, refl) }

pendings_have_no_place : FullCause shop_setup past_second (second_callback 17) table.Pendings
pendings_have_no_place = full_has_a_cause shop_setup past_second (second_callback 17) table.Pendings exchange_drawn_again

sessions_have_no_place : (access t u h : Text) → bytes_eq u (word_text (word 7)) ≡ true → bytes_eq h (half_hash_of access) ≡ true
    → FullCause news_setup (past_two_front access t h) (second_front 17 access (with_hash u h)) table.Sessions
sessions_have_no_place access t u h nonce hash =
    full_has_a_cause news_setup (past_two_front access t h) (second_front 17 access (with_hash u h)) table.Sessions (session_drawn_again access t u h nonce hash)

token_has_no_place : (t : Text) → NoSeenPlace (past_out t) (logout_at 1760 later) (Ended 1)
token_has_no_place t = record { claims = later; asked = refl; count = 1; accepted = refl; full = inr (seen, refl) }

-- ---- and no cause where there is a place: beside no row that lives, or beside those of other tables

first_login_has_a_place : (told : RpReply) → NoLoginPlace [] begin_entry told → ⊥
first_login_has_a_place told h = place_beside_none login_name (word 2) h.full

-- 120 seconds later the exchange is over
late_exchange_has_a_place : (told : RpReply) → NoPendingPlace only_code past_callback (callback_entry 1120 (word 1)) told → ⊥
late_exchange_has_a_place told h = place_beside_none pending_name h.word h.full

-- and one that this step ends makes room for the one that follows it
following_has_a_place : (t : Text) (told : RpReply) → NoPendingPlace only_code past_callback (tokens_entry 1000 t) told → ⊥
following_has_a_place t told h = place_beside_none pending_name h.word h.full

first_session_has_a_place : (t : Text) (told : RpReply) → NoSessionPlace only_code past_callback (tokens_entry 1000 t) told → ⊥
first_session_has_a_place t told h = place_beside_none visit_name (word 26) h.full

-- 661 seconds later the logout token is forgotten
late_token_has_a_place : (t : Text) (told : RpReply) → NoSeenPlace (past_out t) (logout_at 1761 later) told → ⊥
late_token_has_a_place t told h = place_beside_none seen_name h.claims.jti h.full

no_session_of_a_begin : LacksPlace only_code past_begin begin_entry asked table.Sessions → ⊥
no_session_of_a_begin h = (let k = h.enters in cc)

first_login_is_not_refused : (found : RpTable) → FullCause shop_setup [] begin_entry found → ⊥
first_login_is_not_refused found cause = (let k : Refused (no.Full found) ≡ asked = sym (cause_makes_full shop_setup [] begin_entry found cause) ∙ begin_asks in cc)

not_full_where_no_request_asks : (found : RpTable) → FullCause shop_setup past_begin (entry_at 1000 17 (ask.Callback (Err answer_no.NoMemory) None None)) found → ⊥
not_full_where_no_request_asks found cause = (let k : false ≡ true = cause.prepared in cc)

-- ---- a cause, of an ask that a request gives and where there is a place, leads to its reply

abbrev FirstCause : Type 0
FirstCause = AskCause shop_setup [] begin_entry begin_entry.ask (login_location shop_client shop op (word 2) (word 3)) (word 1)

first_login_comes : Comes shop_setup [] begin_entry asked FirstCause
first_login_comes = comes shop_setup [] begin_entry asked refl FirstCause (asks_have_a_cause shop_setup [] begin_entry (login_location shop_client shop op (word 2) (word 3)) (word 1)) begin_asks

first_login_came : rp_answer shop_setup [] begin_entry ≡ asked
first_login_came = came shop_setup [] begin_entry asked FirstCause (ask_leads shop_setup [] begin_entry begin_entry.ask (login_location shop_client shop op (word 2) (word 3)) (word 1)) first_login_comes
