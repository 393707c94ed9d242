-- Each cause, met by a reply of the sample logins; and none where the ask is of another kind.
use Rattle.std.proofs.Common.{◌≡◌, true, false, [], Some, None, Ok, Err, codes, refl}
use Rattle.std.specs.Str.{bytes_eq}
use Rattle.sso_base.specs.Words.{Word, Text, word_text}
use Rattle.sso_base.specs.declared.message.Message.{Message}
use Rattle.id_token.specs.declared.no.IdNo.TheVariants as id_no
use Rattle.id_token.specs.Judging.{id_judged}
use Rattle.id_token.specs.HalfHash.{half_hash_of}
use Rattle.oidc_words.specs.declared.errors.AuthError.TheVariants.{AccessDenied}
use Rattle.token_endpoint.specs.Request.{token_message}
use Rattle.token_endpoint.specs.declared.no.TokensNo.TheVariants as tokens_no
use Rattle.login_request.specs.Request.{login_location}
use Rattle.rp_login.specs.declared.table.RpTable.TheVariants as table
use Rattle.rp_exchange.specs.declared.ask.RpAsk.TheVariants as ask
use Rattle.rp_exchange.specs.declared.no.Part.TheVariants as part
use Rattle.rp_exchange.specs.declared.no.RpNo.{RpNo}
use Rattle.rp_exchange.specs.declared.no.RpNo.TheVariants as no
use Rattle.rp_answer.specs.Replies.{front_rules, back_rules}
use Rattle.rp_answer.specs.Causes.{Stood, OwnLogin, WholeResponse, GoodClaims, IdRefused, IfGood, AskCause, ExchangeCause, EnteredCause, UserCause, NobodyCause, RefusedCause}
use Rattle.rp_answer.proofs.Stood.{own_replies_stand}
use Rattle.rp_answer.proofs.Answers.{asks_have_a_cause, exchanges_have_a_cause, entered_have_a_cause, users_have_a_cause, nobody_has_a_cause}
use Rattle.rp_answer.proofs.Refusals.{refusals_have_a_cause}
use Rattle.rp_answer.proofs.Sample.{word, op, shop_client, shop, shop_uri, shop_setup, news_setup, hybrid_setup}
use Rattle.rp_answer.proofs.FirstVisit.{begin_entry, asked, begin_asks, past_begin, heard, callback_entry, callback_exchanges, callback_after_ten_minutes, callback_of_other_browser, past_callback, claims, tokens_entry, tokens_enter, past_entered, visit_entry, visit_finds_user, visit_after_eight_hours}
use Rattle.rp_answer.proofs.FrontLogin.{past_front, callback_with, with_hash, front_enters, waiting}
use Rattle.rp_answer.proofs.EachRefusal.{came, twice, twice_is_refused, stateless, stateless_is_refused, error_response, error_is_refused, codeless, codeless_is_refused, unread_token, unread_token_is_refused, unknown_exchange, unknown_exchange_is_refused, failed_exchange, failed_exchange_is_refused, bad_token, bad_token_is_refused, past_hybrid, hybrid_tokens, bobs, other_subject_is_refused, state_drawn_again}
use Rattle.rp_answer.proofs.RowSamples.{login}

-- ---- the replies of the first visit

a_reply_stands : Stood shop_setup [] begin_entry asked
a_reply_stands = own_replies_stand shop_setup [] begin_entry asked refl begin_asks

-- a reply for which there is no room does not stand
begin_stands_not : Stood shop_setup past_begin begin_entry asked → ⊥
begin_stands_not h = let room = h.room in cc

a_login_begins : AskCause shop_setup [] begin_entry begin_entry.ask (login_location shop_client shop op (word 2) (word 3)) (word 1)
a_login_begins = asks_have_a_cause shop_setup [] begin_entry (login_location shop_client shop op (word 2) (word 3)) (word 1) begin_asks

abbrev code_request : Message
code_request = token_message shop_client op.token (codes "code") shop_uri

a_code_is_exchanged : ExchangeCause shop_setup past_begin (callback_entry 1599 (word 1)) (callback_entry 1599 (word 1)).ask (word 17) code_request
a_code_is_exchanged = exchanges_have_a_cause shop_setup past_begin (callback_entry 1599 (word 1)) (word 17) code_request callback_exchanges

alice_enters : (t : Text) → bytes_eq t (word_text (word 3)) ≡ true
    → EnteredCause shop_setup past_callback (tokens_entry 1119 t) (tokens_entry 1119 t).ask (word 26) (codes "alice")
alice_enters t same = entered_have_a_cause shop_setup past_callback (tokens_entry 1119 t) (word 26) (codes "alice") (tokens_enter t same)

alice_enters_at_once : (access t h : Text) → bytes_eq t (word_text (word 3)) ≡ true → bytes_eq h (half_hash_of access) ≡ true
    → EnteredCause news_setup past_front (callback_with 1359 access (with_hash t h)) (callback_with 1359 access (with_hash t h)).ask (word 18) (codes "alice")
alice_enters_at_once access t h nonce hash =
    entered_have_a_cause news_setup past_front (callback_with 1359 access (with_hash t h)) (word 18) (codes "alice") (front_enters access t h nonce hash)

alice_is_there : (t : Text) → UserCause shop_setup (past_entered t) (visit_entry 29799) (visit_entry 29799).ask (codes "alice")
alice_is_there t = users_have_a_cause shop_setup (past_entered t) (visit_entry 29799) (codes "alice") (visit_finds_user t)

nobody_is_there : (t : Text) → NobodyCause shop_setup (past_entered t) (visit_entry 29800) (visit_entry 29800).ask
nobody_is_there t = nobody_has_a_cause shop_setup (past_entered t) (visit_entry 29800) (visit_after_eight_hours t)

-- ---- each refusal

a_part_twice : RefusedCause shop_setup past_begin twice twice.ask (no.Twice (codes "state"))
a_part_twice = refusals_have_a_cause shop_setup past_begin twice (no.Twice (codes "state")) twice_is_refused

no_state : RefusedCause shop_setup past_begin stateless stateless.ask no.NoState
no_state = refusals_have_a_cause shop_setup past_begin stateless no.NoState stateless_is_refused

a_stale_login : RefusedCause shop_setup past_begin (callback_entry 1600 (word 1)) (callback_entry 1600 (word 1)).ask no.StaleLogin
a_stale_login = refusals_have_a_cause shop_setup past_begin (callback_entry 1600 (word 1)) no.StaleLogin callback_after_ten_minutes

a_wrong_browser : RefusedCause shop_setup past_begin (callback_entry 1000 (word 5)) (callback_entry 1000 (word 5)).ask no.WrongBrowser
a_wrong_browser = refusals_have_a_cause shop_setup past_begin (callback_entry 1000 (word 5)) no.WrongBrowser callback_of_other_browser

a_provider_error : RefusedCause shop_setup past_begin error_response error_response.ask (no.Provider AccessDenied)
a_provider_error = refusals_have_a_cause shop_setup past_begin error_response (no.Provider AccessDenied) error_is_refused

a_missing_part : RefusedCause shop_setup past_begin codeless codeless.ask (no.Missing part.Code)
a_missing_part = refusals_have_a_cause shop_setup past_begin codeless (no.Missing part.Code) codeless_is_refused

a_front_token_refused : (access : Text) → RefusedCause news_setup past_front (unread_token access) (unread_token access).ask (no.Id (id_no.Missing (codes "iss")))
a_front_token_refused access =
    refusals_have_a_cause news_setup past_front (unread_token access) (no.Id (id_no.Missing (codes "iss"))) (unread_token_is_refused access)

a_stale_exchange : RefusedCause shop_setup past_callback unknown_exchange unknown_exchange.ask no.StalePending
a_stale_exchange = refusals_have_a_cause shop_setup past_callback unknown_exchange no.StalePending unknown_exchange_is_refused

a_failed_exchange : RefusedCause shop_setup past_callback failed_exchange failed_exchange.ask (no.Tokens (tokens_no.Status 400))
a_failed_exchange =
    refusals_have_a_cause shop_setup past_callback failed_exchange (no.Tokens (tokens_no.Status 400)) failed_exchange_is_refused

a_back_token_refused : RefusedCause shop_setup past_callback bad_token bad_token.ask (no.Id id_no.Issuer)
a_back_token_refused = refusals_have_a_cause shop_setup past_callback bad_token (no.Id id_no.Issuer) bad_token_is_refused

another_subject : (code t h : Text) → bytes_eq t (word_text (word 3)) ≡ true
    → RefusedCause hybrid_setup (past_hybrid code t h) (hybrid_tokens (bobs t)) (hybrid_tokens (bobs t)).ask no.SubjectDiffers
another_subject code t h nonce =
    refusals_have_a_cause hybrid_setup (past_hybrid code t h) (hybrid_tokens (bobs t)) no.SubjectDiffers (other_subject_is_refused code t h nonce)

a_full_table_is_refused : RefusedCause shop_setup past_begin begin_entry begin_entry.ask (no.Full table.Logins)
a_full_table_is_refused = refusals_have_a_cause shop_setup past_begin begin_entry (no.Full table.Logins) state_drawn_again

-- ---- who is logged in is asked for: nothing but that comes of it

no_login_begins : (to : Text) (w : Word) → AskCause shop_setup [] begin_entry (ask.Visit None) to w → ⊥
no_login_begins to w h = h

no_code_is_exchanged : (w : Word) (message : Message) → ExchangeCause shop_setup [] begin_entry (ask.Visit None) w message → ⊥
no_code_is_exchanged w message h = h

nobody_enters : (w : Word) (sub : Text) → EnteredCause shop_setup [] begin_entry (ask.Visit None) w sub → ⊥
nobody_enters w sub h = h.enters

nothing_is_refused : (why : RpNo) → RefusedCause shop_setup [] begin_entry (ask.Visit None) why → ⊥
nothing_is_refused why h = h

begin_finds_no_user : (sub : Text) → UserCause shop_setup [] begin_entry begin_entry.ask sub → ⊥
begin_finds_no_user sub h = h

begin_finds_not_nobody : NobodyCause shop_setup [] begin_entry begin_entry.ask → ⊥
begin_finds_not_nobody h = h

-- ---- logins, responses and claims

own_login : OwnLogin past_begin (callback_entry 1599 (word 1)) heard (Some (word 1)) login
own_login = record { live = refl; same_browser = refl }

-- another browser's response is not of its login
other_login : OwnLogin past_begin (callback_entry 1599 (word 5)) heard (Some (word 5)) login → ⊥
other_login h = let same = h.same_browser in cc

whole_response : WholeResponse shop_setup past_begin (callback_entry 1599 (word 1)) heard (Some (word 1)) login
whole_response = record { own = own_login; no_error = refl; whole = refl }

-- the other response type has parts that this response has not
part_response : WholeResponse news_setup past_begin (callback_entry 1599 (word 1)) heard (Some (word 1)) login → ⊥
part_response h = let whole = h.whole in cc

good_claims : (t : Text) → bytes_eq t (word_text (word 3)) ≡ true → GoodClaims (back_rules shop_setup waiting came) 1119 (Some (Ok (claims t))) (claims t)
good_claims t same = record { read = refl; good = tt; judged = rw same refl }

-- the nonce is of another login
claims_of_other_nonce : (t : Text) → bytes_eq t (word_text (word 3)) ≡ false → GoodClaims (back_rules shop_setup waiting came) 1119 (Some (Ok (claims t))) (claims t) → ⊥
claims_of_other_nonce t other h =
    let refused : id_judged (back_rules shop_setup waiting came) (claims t) 1119 ≡ Err id_no.Nonce = rw other refl in
    let judged = h.judged in
    cc

no_token_to_accept : IfGood (front_rules shop_setup login heard) 1000 None
no_token_to_accept = tt

unread_is_not_accepted : IfGood (front_rules shop_setup login heard) 1000 (Some (Err id_no.Issuer)) → ⊥
unread_is_not_accepted h = h

bad_claims : (t : Text) → bytes_eq t (word_text (word 3)) ≡ false → IdRefused (back_rules shop_setup waiting came) 1119 (Some (Ok (claims t))) id_no.Nonce
bad_claims t other = record { judged = rw other refl }

none_is_not_refused : IdRefused (back_rules shop_setup waiting came) 1119 None id_no.Nonce → ⊥
none_is_not_refused h = h
