-- UserInfo requests: the causes of their replies, who sent them, and who enters then, each met and refused on the sample logins.
use Rattle.std.proofs.Common.{◌≡◌, true, [], ◌∷◌, ◌++◌, Some, None, Ok, Err, codes, refl, inl, inr}
use Rattle.std.specs.Str.{bytes_eq}
use Rattle.sso_base.specs.Words.{Word, Text, word_text}
use Rattle.sso_base.specs.declared.message.Message.{Message}
use Rattle.id_token.specs.declared.claims.IdClaims.{IdClaims}
use Rattle.id_token.specs.HalfHash.{half_hash_of}
use Rattle.token_endpoint.specs.Request.{token_message}
use Rattle.userinfo.specs.declared.no.InfoNo.TheVariants as info_no
use Rattle.rp_login.specs.declared.rows.Stage.TheVariants as stage
use Rattle.rp_exchange.specs.declared.ask.RpAsk.TheVariants as ask
use Rattle.rp_exchange.specs.declared.no.RpNo.TheVariants as no
use Rattle.rp_answer.specs.Past.{RpPast, RpPair}
use Rattle.rp_answer.specs.Replies.{front_rules, back_rules}
use Rattle.rp_answer.specs.Causes.{FragmentCause, FetchCause, FetchedAtOnce, FetchedAfterExchange, NotFetched, EnteredCause, EnteredAfterInfo, InfoFailed, InfoOfAnother, InfoRefused, RefusedCause}
use Rattle.rp_answer.specs.Legal.{Responded, ExchangedBy, AskedAtOnce, AskedAfterExchange, FetchedBy, SentBy, JudgedBefore, JudgedFor, login_entered}
use Rattle.rp_answer.specs.Hashes.{CodeHasHash, FrontHasHash, BackHasHash, AccessHasHash}
use Rattle.rp_answer.proofs.Answers.{fetches_have_a_cause, entered_have_a_cause}
use Rattle.rp_answer.proofs.Refusals.{refusals_have_a_cause}
use Rattle.rp_answer.proofs.Hashes.{codes_have_their_hash, access_tokens_have_their_hash}
use Rattle.rp_answer.proofs.Sample.{word, pair_of, op, code_and_id, shop_client, shop_uri, shop_setup, hybrid_setup, mail_setup, press_setup}
use Rattle.rp_answer.proofs.FirstVisit.{begin_entry, past_begin, heard, callback_entry, past_callback, claims}
use Rattle.rp_answer.proofs.FrontLogin.{heard_front, callback_with, with_hash, waiting}
use Rattle.rp_answer.proofs.EachRefusal.{came, past_hybrid_begin, heard_hybrid, hybrid_response, hybrid_exchange, hybrid_exchanges, failed_exchange}
use Rattle.rp_answer.proofs.RowSamples.{login}
use Rattle.rp_answer.proofs.Fetching.{past_mail_begin, past_mail, question, fetch, late_tokens, late_tokens_fetch, hashed, hashed_tokens, hashed_tokens_fetch, past_fetch, asking, info_entry, entered_late, info_enters, info_of_another, info_failed, info_after_two_minutes, past_press, fetch_front, front_fetches, past_press_fetch, asking_front}

-- ---- the page of the fragment

a_page : FragmentCause ask.Fragment
a_page = tt

no_page : FragmentCause begin_entry.ask → ⊥
no_page h = h

-- ---- what the replies say

mail_is_fetched : (code t h : Text) → bytes_eq t (word_text (word 3)) ≡ true → FetchCause mail_setup (past_mail code t h) (late_tokens t) (late_tokens t).ask (word 17) (question (codes "access"))
mail_is_fetched code t h nonce = fetches_have_a_cause mail_setup (past_mail code t h) (late_tokens t) (word 17) (question (codes "access")) (late_tokens_fetch code t h nonce)

press_is_fetched : (access t h : Text) → bytes_eq t (word_text (word 3)) ≡ true → bytes_eq h (half_hash_of access) ≡ true
    → FetchCause press_setup past_press (callback_with 1000 access (with_hash t h)) (callback_with 1000 access (with_hash t h)).ask (word 17) (question access)
press_is_fetched access t h nonce hash =
    fetches_have_a_cause press_setup past_press (callback_with 1000 access (with_hash t h)) (word 17) (question access) (front_fetches access t h nonce hash)

nothing_is_fetched : (w : Word) (message : Message) → FetchCause shop_setup [] begin_entry (ask.Visit None) w message → ⊥
nothing_is_fetched w message h = h

code_is_not_fetched : (w : Word) (message : Message) → FetchedAtOnce shop_setup past_begin (callback_entry 1000 (word 1)) heard None (Some (word 1)) w message → ⊥
code_is_not_fetched w message h = let code = h.no_code in cc

nothing_fetched_without_claims : (w : Word) (message : Message) → FetchedAfterExchange mail_setup past_callback failed_exchange (word 17) came None w message → ⊥
nothing_fetched_without_claims w message h = let read = h.accepted.read in cc

no_endpoint : NotFetched None (Some (codes "access"))
no_endpoint = inl refl

both_are_there : NotFetched (Some (codes "endpoint")) (Some (codes "access")) → ⊥
both_are_there (inl h) = cc
both_are_there (inr h) = cc

alice_enters_late : (code t h : Text) → EnteredCause mail_setup (past_fetch code t h) (info_entry 1169 (Ok (codes "alice"))) (info_entry 1169 (Ok (codes "alice"))).ask (word 30) (codes "alice")
alice_enters_late code t h = entered_have_a_cause mail_setup (past_fetch code t h) (info_entry 1169 (Ok (codes "alice"))) (word 30) (codes "alice") (info_enters code t h)

too_late_to_enter : (code t h : Text) (w : Word) (sub : Text) → EnteredAfterInfo mail_setup (past_fetch code t h) (info_entry 1170 (Ok (codes "alice"))) (word 17) (codes "alice") w sub → ⊥
too_late_to_enter code t h w sub e = let live = e.live in cc

a_failed_question : (code t h : Text) → RefusedCause mail_setup (past_fetch code t h) (info_entry 1060 (Err (info_no.Status 401))) (info_entry 1060 (Err (info_no.Status 401))).ask (no.Info (info_no.Status 401))
a_failed_question code t h = refusals_have_a_cause mail_setup (past_fetch code t h) (info_entry 1060 (Err (info_no.Status 401))) (no.Info (info_no.Status 401)) (info_failed code t h)

other_failure : (code t h : Text) → InfoFailed mail_setup (past_fetch code t h) (info_entry 1060 (Err (info_no.Status 401))) (word 17) (info_no.Status 401) info_no.NoSub → ⊥
other_failure code t h e = let failed = e.failed in cc

a_question_of_another : (code t h : Text) → RefusedCause mail_setup (past_fetch code t h) (info_entry 1060 (Ok (codes "bob"))) (info_entry 1060 (Ok (codes "bob"))).ask no.SubjectDiffers
a_question_of_another code t h = refusals_have_a_cause mail_setup (past_fetch code t h) (info_entry 1060 (Ok (codes "bob"))) no.SubjectDiffers (info_of_another code t h)

no_question_of_another : (code t h : Text) → InfoOfAnother mail_setup (past_fetch code t h) (info_entry 1170 (Ok (codes "bob"))) (word 17) (codes "bob") → ⊥
no_question_of_another code t h e = let live = e.live in cc

a_stale_question : (code t h : Text) → InfoRefused mail_setup (past_fetch code t h) (info_entry 1170 (Ok (codes "alice"))) (word 17) (Ok (codes "alice")) no.StalePending
a_stale_question code t h = refusals_have_a_cause mail_setup (past_fetch code t h) (info_entry 1170 (Ok (codes "alice"))) no.StalePending (info_after_two_minutes code t h)

no_state_of_a_question : (code t h : Text) → InfoRefused mail_setup (past_fetch code t h) (info_entry 1170 (Ok (codes "alice"))) (word 17) (Ok (codes "alice")) no.NoState → ⊥
no_state_of_a_question code t h e = e

-- ---- hashes

a_code_has_its_hash : (code t h : Text) → bytes_eq t (word_text (word 3)) ≡ true → bytes_eq h (half_hash_of code) ≡ true
    → CodeHasHash hybrid_setup (hybrid_response code t h) (token_message shop_client op.token code shop_uri)
a_code_has_its_hash code t h nonce hash =
    codes_have_their_hash hybrid_setup past_hybrid_begin (hybrid_response code t h) (word 17) (token_message shop_client op.token code shop_uri) refl (hybrid_exchanges code t h nonce hash)

no_code_came : (message : Message) → CodeHasHash shop_setup begin_entry message → ⊥
no_code_came message h = let asked = h.asked in cc

an_access_token_has_its_hash : (access t h : Text) → bytes_eq t (word_text (word 3)) ≡ true → bytes_eq h (half_hash_of access) ≡ true
    → AccessHasHash press_setup (callback_with 1000 access (with_hash t h)) (question access)
an_access_token_has_its_hash access t h nonce hash =
    access_tokens_have_their_hash press_setup past_press (callback_with 1000 access (with_hash t h)) (word 17) (question access) (front_fetches access t h nonce hash)

-- the ID Token of a token response need not have one
a_token_response_has_none : (code t h : Text) → bytes_eq t (word_text (word 3)) ≡ true → AccessHasHash mail_setup (late_tokens t) (question (codes "access"))
a_token_response_has_none code t h nonce =
    access_tokens_have_their_hash mail_setup (past_mail code t h) (late_tokens t) (word 17) (question (codes "access")) (late_tokens_fetch code t h nonce)

-- one that it has is that of the access token
a_token_response_has_its_hash : (code t h k : Text) → bytes_eq t (word_text (word 3)) ≡ true → bytes_eq k (half_hash_of (codes "access")) ≡ true
    → AccessHasHash mail_setup (hashed_tokens t k) (question (codes "access"))
a_token_response_has_its_hash code t h k nonce hash =
    access_tokens_have_their_hash mail_setup (past_mail code t h) (hashed_tokens t k) (word 17) (question (codes "access")) (hashed_tokens_fetch code t h k nonce hash)

back_without_hash : (t : Text) → BackHasHash (late_tokens t) (claims t) (codes "access")
back_without_hash t = record { pending = word 17; came = came; id = Some (Ok (claims t)); asked = refl; access_is = refl; hash = tt }

back_with_hash : (t k : Text) → k ≡ half_hash_of (codes "access") → BackHasHash (hashed_tokens t k) (hashed t k) (codes "access")
back_with_hash t k same = record { pending = word 17; came = came; id = Some (Ok (hashed t k)); asked = refl; access_is = refl; hash = same }

back_with_another : (t k : Text) → (k ≡ half_hash_of (codes "access") → ⊥) → BackHasHash (hashed_tokens t k) (hashed t k) (codes "access") → ⊥
back_with_another t k other h = other h.hash

no_access_came : (message : Message) → AccessHasHash mail_setup begin_entry message → ⊥
no_access_came message h = let came = h.came in cc

no_front_access : (t access : Text) → FrontHasHash mail_setup begin_entry (claims t) access → ⊥
no_front_access t access h = let asked = h.asked in cc

no_back_access : (t access : Text) → BackHasHash begin_entry (claims t) access → ⊥
no_back_access t access h = let asked = h.asked in cc

-- ---- who sent the requests

no_parts : (later : RpPast) (p : RpPair) (earlier : RpPast) → [] ≡ later ++ p ∷ earlier → ⊥
no_parts [] p earlier h = cc
no_parts (q ∷ later) p earlier h = cc

a_code_was_exchanged : (code t h : Text) → ExchangedBy mail_setup (past_mail code t h) (record waiting { sub = Some (codes "alice"); sid = Some (codes "sid"); code = Some code })
a_code_was_exchanged code t h = record {
  later = [];
  maker = pair_of (hybrid_response code t h) (hybrid_exchange code);
  earlier = past_mail_begin;
  parts = refl;
  heard = heard_hybrid code;
  id = Some (Ok (record (claims t) { c_hash = Some h }));
  browser = Some (word 1);
  asked = refl;
  message = token_message shop_client op.token code shop_uri;
  replied = refl;
  drawn = refl;
  since_then = refl;
  login = login;
  own = record { live = refl; same_browser = refl };
  nonce_is = refl;
  begun_is = refl;
  place = refl;
  code_is = refl;
  sub_is = refl;
  sid_is = refl;
}

responded_before : (code t h : Text) → Responded (past_mail code t h) (late_tokens t) login
responded_before code t h = record {
  earlier = past_mail_begin;
  entry = hybrid_response code t h;
  heard = heard_hybrid code;
  id = Some (Ok (record (claims t) { c_hash = Some h }));
  browser = Some (word 1);
  asked = refl;
  own = record { live = refl; same_browser = refl };
  now_or_before = inr (record { later = []; reply = hybrid_exchange code; parts = refl });
}

asked_after : (code t h : Text) → AskedAfterExchange mail_setup (past_mail code t h) (late_tokens t) login (word 17)
unfolding a_code_was_exchanged
asked_after code t h = record {
  came = came;
  id = Some (Ok (claims t));
  asked = refl;
  exchange = record waiting { sub = Some (codes "alice"); sid = Some (codes "sid"); code = Some code };
  live = refl;
  word_is = refl;
  sent = a_code_was_exchanged code t h;
  of_login = refl;
}

not_asked_after : (w : Word) → AskedAfterExchange mail_setup [] begin_entry login w → ⊥
not_asked_after w h = let asked = h.asked in cc

asked_at_once : (access t h : Text) → AskedAtOnce past_press (callback_with 1000 access (with_hash t h)) login (word 17)
asked_at_once access t h = record {
  heard = heard_front access;
  id = Some (Ok (with_hash t h));
  browser = Some (word 1);
  asked = refl;
  own = record { live = refl; same_browser = refl };
  drawn = refl;
}

not_asked_at_once : (w : Word) → AskedAtOnce [] begin_entry login w → ⊥
not_asked_at_once w h = let asked = h.asked in cc

-- nor for the login of another browser
not_asked_by_another : (access t h : Text) (w : Word) → AskedAtOnce past_press (callback_with 1000 access (with_hash t h)) (record login { browser = word 5 }) w → ⊥
not_asked_by_another access t h w a = let live = a.own.live in cc

mail_was_fetched : (code t h : Text) → bytes_eq t (word_text (word 3)) ≡ true → SentBy mail_setup (past_fetch code t h) (asking code) stage.Info
mail_was_fetched code t h same = record {
  later = [];
  maker = pair_of (late_tokens t) fetch;
  earlier = past_mail code t h;
  parts = refl;
  message = question (codes "access");
  replied = refl;
  since_then = refl;
  login = login;
  responded = responded_before code t h;
  word_is = inr (asked_after code t h);
  nonce_is = refl;
  begun_is = refl;
  place = refl;
  claims = claims t;
  token = record {
    came = refl;
    rules = back_rules mail_setup (record waiting { sub = Some (codes "alice"); sid = Some (codes "sid"); code = Some code }) came;
    issuer_is = refl;
    client_is = refl;
    nonce_is = refl;
    begun_is = refl;
    age_is = refl;
    good = tt;
    judged = rw same refl;
  };
  sub_is = refl;
  sid_is = refl;
}

press_was_fetched : (access t h : Text) → bytes_eq t (word_text (word 3)) ≡ true → bytes_eq h (half_hash_of access) ≡ true
    → SentBy press_setup (past_press_fetch access t h) asking_front stage.Info
press_was_fetched access t h nonce hash = record {
  later = [];
  maker = pair_of (callback_with 1000 access (with_hash t h)) (fetch_front access);
  earlier = past_press;
  parts = refl;
  message = question access;
  replied = refl;
  since_then = refl;
  login = login;
  responded = record {
    earlier = past_press;
    entry = callback_with 1000 access (with_hash t h);
    heard = heard_front access;
    id = Some (Ok (with_hash t h));
    browser = Some (word 1);
    asked = refl;
    own = record { live = refl; same_browser = refl };
    now_or_before = inl (refl, refl);
  };
  word_is = inl (asked_at_once access t h);
  nonce_is = refl;
  begun_is = refl;
  place = refl;
  claims = with_hash t h;
  token = record {
    came = refl;
    rules = front_rules press_setup login (heard_front access);
    issuer_is = refl;
    client_is = refl;
    nonce_is = refl;
    begun_is = refl;
    age_is = refl;
    good = tt;
    judged = rw (nonce, hash) refl;
  };
  sub_is = refl;
  sid_is = refl;
}

nothing_was_fetched : (code : Text) → FetchedBy mail_setup [] (asking code) → ⊥
nothing_was_fetched code h = no_parts h.later h.maker h.earlier h.parts

-- ---- which ID Token lets alice in after UserInfo: that of the token response

judged_before : (code t h : Text) → bytes_eq t (word_text (word 3)) ≡ true
    → JudgedFor mail_setup (past_fetch code t h) (info_entry 1169 (Ok (codes "alice"))) (info_entry 1169 (Ok (codes "alice"))).ask login (claims t)
unfolding mail_was_fetched
judged_before code t h same = record {
  waiting = asking code;
  live = refl;
  asked_by = mail_was_fetched code t h same;
  of_login = refl;
  claims_are = refl;
}

-- the ID Token of the response is not enough where that of the token response could not be read
not_judged_by_the_front : (code t h : Text) (token : IdClaims) → JudgedFor mail_setup (past_mail code t h) failed_exchange failed_exchange.ask login token → ⊥
not_judged_by_the_front code t h token j = let came = j.came in cc

judged_too_late : (code t h : Text) → JudgedBefore mail_setup (past_fetch code t h) (info_entry 1170 (Ok (codes "alice"))) (word 17) login (claims t) → ⊥
judged_too_late code t h j = let live = j.live in cc

info_enters_first : (code t h : Text) → login_entered code_and_id (past_fetch code t h) (pair_of (info_entry 1169 (Ok (codes "alice"))) entered_late) ≡ Some 0
info_enters_first code t h = refl

no_info_enters_late : (code t h : Text) → login_entered code_and_id (past_fetch code t h) (pair_of (info_entry 1170 (Ok (codes "alice"))) entered_late) ≡ None
no_info_enters_late code t h = refl
