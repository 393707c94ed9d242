-- Legal pasts, who began and who entered, on the sample logins. The whole past of a login by code is legal.
use Rattle.std.proofs.Common.{◌≡◌, ◌≤◌, ◌+◌, ℕ, true, false, List, length, [], ◌∷◌, ◌++◌, Option, Some, None, Ok, codes, refl, sym, ◌∙◌, ap, subst, arith, inl, inr}
use Rattle.std.specs.Str.{IsUtf8, bytes_eq}
use Rattle.json.proofs.Printed.Utf8.{IsUtf8-are_ascii}
use Rattle.sso_base.specs.Words.{Word, Text, IsWord, word_text}
use Rattle.sso_base.specs.Base64Url.{all_bytes}
use Rattle.sso_base.specs.Values.{AreWords}
use Rattle.sso_base.specs.Drawn.{IsDrawn}
use Rattle.sso_base.proofs.DrawnWords.{texts_tell_words}
use Rattle.sso_base.specs.Journal.{history_weight}
use Rattle.sso_base.proofs.Histories.{few_stored_pairs}
use Rattle.sso_base.proofs.RowLaws.{bytes_same}
use Rattle.sso_base.proofs.WordUtf8.{IsUtf8-word_text}
use Rattle.sso_base.specs.declared.history.Entry.{Entry}
use Rattle.sso_base.proofs.Spelling.{IsBytes-from_all_bytes}
use Rattle.claim_set.proofs.Fitting.{ClaimsFit-none}
use Rattle.id_token.specs.HalfHash.{half_hash_of}
use Rattle.token_endpoint.specs.Request.{token_message}
use Rattle.login_request.specs.Request.{login_location}
use Rattle.rp_login.specs.declared.rows.LoginRow.{LoginRow}
use Rattle.rp_exchange.specs.declared.ask.RpAsk.{RpAsk}
use Rattle.rp_exchange.specs.declared.ask.RpAsk.TheVariants as ask
use Rattle.rp_exchange.specs.declared.reply.RpReply.TheVariants.{NotHere}
use Rattle.rp_exchange.specs.Values.{IsRpAsk, IsIdValue}
use Rattle.rp_exchange.specs.Weight.{ask_weight}
use Rattle.rp_exchange.proofs.LeastWeight.{least_weight}
use Rattle.rp_answer.specs.Past.{RpPast, RpPair}
use Rattle.rp_answer.specs.Logins.{live_login}
use Rattle.rp_answer.specs.Answering.{rp_answer}
use Rattle.rp_answer.specs.Replies.{front_rules, back_rules}
use Rattle.rp_answer.specs.Legal.{IsLegalRp, IsLegalHistory, BegunBy, JudgedWith, JudgedFor, ExchangedBy, EnteredBy, Before, Responded, LoginEntered, place_of_login, place_of_pending, login_entered}
use Rattle.rp_answer.proofs.Sample.{word, words, entry_at, pair_of, op, only_code, id_and_token, shop_client, shop, shop_uri, shop_setup, news_setup}
use Rattle.rp_answer.proofs.FirstVisit.{begin_entry, asked, begin_asks, past_begin, heard, callback_entry, exchange, callback_exchanges_at_once, past_callback, claims, tokens_entry, entered, tokens_enter_at_once, past_entered}
use Rattle.rp_answer.proofs.FrontLogin.{past_front, heard_front, callback_with, with_hash, entered_front, waiting}
use Rattle.rp_answer.proofs.EachRefusal.{came}
use Rattle.rp_answer.proofs.RowSamples.{login, visit}
use Rattle.rp_answer.proofs.Entering.{sessions_need_a_login}

pub is_word : (n : ℕ) → all_bytes (word n) ≡ true → IsWord (word n)
is_word n bytes = record { long = refl; bytes = IsBytes-from_all_bytes (word n) bytes }

pub are_words : (n : ℕ) → all_bytes (word n) ≡ true → all_bytes (word (n + 1)) ≡ true → all_bytes (word (n + 2)) ≡ true → all_bytes (word (n + 3)) ≡ true → AreWords (words n)
are_words n first second third fourth = (is_word n first, (is_word (n + 1) second, (is_word (n + 2) third, (is_word (n + 3) fourth, tt))))

-- an ask of texts in UTF-8 and words of 32 bytes
visit_asks : IsRpAsk (ask.Visit (Some (word 26)))
visit_asks = is_word 26 refl

no_word : IsRpAsk (ask.Visit (Some [])) → ⊥
no_word h = let long : ◌≡◌ {A = ℕ} 0 32 = h.long in absurd (omega (arith, long))

-- ---- a past of one pair is legal with the reply that is defined, and with no other

pub begin_is_legal : IsLegalRp shop_setup past_begin
begin_is_legal = (tt, record { moment = omega arith; four = refl; words = are_words 1 refl refl refl refl; ask = tt }, omega arith, sym begin_asks)

-- and so is the whole first visit
callback_is_legal : IsLegalRp shop_setup past_callback
callback_is_legal = (
  begin_is_legal,
  record {
    moment = omega arith;
    four = refl;
    words = are_words 17 refl refl refl refl;
    ask = (record { state = is_word 2 refl; code = IsUtf8-are_ascii (codes "code") refl; access = tt; id = tt }, tt, is_word 1 refl);
  },
  omega arith,
  sym callback_exchanges_at_once,
)

pub claims_are_values : (t : Text) → IsUtf8 t → IsIdValue (claims t)
claims_are_values t spelled = record {
  iss = IsUtf8-are_ascii (codes "http://127.0.0.1:8080") refl;
  sub = IsUtf8-are_ascii (codes "alice") refl;
  aud = (IsUtf8-are_ascii (codes "shop-client") refl, tt);
  azp = tt;
  exp = omega arith;
  iat = omega arith;
  auth_time = omega arith;
  nonce = spelled;
  sid = IsUtf8-are_ascii (codes "sid") refl;
  at_hash = tt;
  c_hash = tt;
  more = ClaimsFit-none;
}

visit_is_legal : (t : Text) → IsUtf8 t → bytes_eq t (word_text (word 3)) ≡ true → IsLegalRp shop_setup (past_entered t)
visit_is_legal t spelled same = (
  callback_is_legal,
  record {
    moment = omega arith;
    four = refl;
    words = are_words 25 refl refl refl refl;
    ask = (is_word 17 refl, (IsUtf8-are_ascii (codes "access") refl, IsUtf8-are_ascii (codes "id") refl), claims_are_values t spelled);
  },
  omega arith,
  sym (tokens_enter_at_once t same),
)

pub entered_is_legal : (t : Text) → bytes_eq t (word_text (word 3)) ≡ true → IsLegalRp shop_setup (past_entered t)
entered_is_legal t same = visit_is_legal t (subst IsUtf8 (sym (bytes_same t (word_text (word 3)) same)) (IsUtf8-word_text (word 3))) same

other_reply_is_not_legal : IsLegalRp shop_setup (pair_of begin_entry NotHere ∷ []) → ⊥
other_reply_is_not_legal h = let told : NotHere ≡ asked = h.3 ∙ begin_asks in cc

-- the history of one pair is light enough
pub begin_is_legal_history : IsLegalHistory shop_setup (pair_of begin_entry asked ∷ [])
begin_is_legal_history = record { past = begin_is_legal; light = (let light : history_weight ask_weight (pair_of begin_entry asked ∷ []) ≤ 268435456 = omega arith in light) }

no_history_with_another_reply : IsLegalHistory shop_setup (pair_of begin_entry NotHere ∷ []) → ⊥
no_history_with_another_reply h = other_reply_is_not_legal h.past

-- nor one in which time goes back
time_goes_back : IsLegalRp shop_setup (pair_of (entry_at 999 5 (ask.Begin None)) asked ∷ past_begin) → ⊥
time_goes_back h = absurd (omega (arith, h.2))

-- ---- words that were drawn, and their texts

state_is_drawn : IsDrawn past_begin (word 2)
state_is_drawn = record { later = []; maker = pair_of begin_entry asked; earlier = []; parts = refl; number = 1; low = omega arith; drawn = refl }

nonce_is_drawn : IsDrawn past_begin (word 3)
nonce_is_drawn = record { later = []; maker = pair_of begin_entry asked; earlier = []; parts = refl; number = 2; low = omega arith; drawn = refl }

other_words_have_other_texts : word_text (word 2) ≡ word_text (word 3) → ⊥
other_words_have_other_texts same =
    let one : word 2 ≡ word 3 = texts_tell_words IsRpAsk (rp_answer shop_setup) past_begin (word 2) (word 3) begin_is_legal state_is_drawn nonce_is_drawn same in
    let never : false ≡ true = ap (λ (w : Word). bytes_eq w (word 3)) one in
    cc

-- ---- who began a login, and who entered

no_parts : (later : RpPast) (p : RpPair) (earlier : RpPast) → [] ≡ later ++ p ∷ earlier → ⊥
no_parts [] p earlier h = cc
no_parts (q ∷ later) p earlier h = cc

begun : BegunBy past_callback login
begun = record {
  later = pair_of (callback_entry 1000 (word 1)) exchange ∷ [];
  maker = pair_of begin_entry asked;
  earlier = [];
  parts = refl;
  presented = None;
  asked = refl;
  to = login_location shop_client shop op (word 2) (word 3);
  replied = refl;
  state_drawn = refl;
  nonce_drawn = refl;
  begun_then = refl;
  place = refl;
}

nothing_begun : BegunBy [] login → ⊥
nothing_begun h = no_parts h.later h.maker h.earlier h.parts

exchanged : ExchangedBy shop_setup past_callback waiting
exchanged = record {
  later = [];
  maker = pair_of (callback_entry 1000 (word 1)) exchange;
  earlier = past_begin;
  parts = refl;
  heard = heard;
  id = None;
  browser = Some (word 1);
  asked = refl;
  message = token_message shop_client op.token (codes "code") shop_uri;
  replied = refl;
  drawn = refl;
  since_then = refl;
  login = login;
  own = record { live = refl; same_browser = refl };
  nonce_is = refl;
  begun_is = refl;
  place = refl;
  code_is = refl;
  sub_is = refl;
  sid_is = refl;
}

nothing_exchanged : ExchangedBy shop_setup [] waiting → ⊥
nothing_exchanged h = no_parts h.later h.maker h.earlier h.parts

begun_before : Before past_callback [] begin_entry
begun_before = record { later = pair_of (callback_entry 1000 (word 1)) exchange ∷ []; reply = asked; parts = refl }

nothing_before : Before [] [] begin_entry → ⊥
nothing_before h = no_parts h.later (record { entry = begin_entry; reply = h.reply }) [] h.parts

-- ---- who enters: after an exchange, and at once

responded : (t : Text) → Responded past_callback (tokens_entry 1000 t) login
responded t = record {
  earlier = past_begin;
  entry = callback_entry 1000 (word 1);
  heard = heard;
  id = None;
  browser = Some (word 1);
  asked = refl;
  own = record { live = refl; same_browser = refl };
  now_or_before = inr (record { later = []; reply = exchange; parts = refl });
}

token_judged : (t : Text) → bytes_eq t (word_text (word 3)) ≡ true → JudgedWith shop_setup (tokens_entry 1000 t) login (claims t)
token_judged t same = record {
  came = refl;
  rules = back_rules shop_setup waiting came;
  issuer_is = refl;
  client_is = refl;
  nonce_is = refl;
  begun_is = refl;
  age_is = refl;
  good = tt;
  judged = rw same refl;
}

no_token_came : (t : Text) → JudgedWith shop_setup begin_entry login (claims t) → ⊥
no_token_came t h = let came = h.came in cc

judged_now : (t : Text) → bytes_eq t (word_text (word 3)) ≡ true → JudgedFor shop_setup past_callback (tokens_entry 1000 t) (tokens_entry 1000 t).ask login (claims t)
judged_now t same = token_judged t same

none_judged_now : (t : Text) → JudgedFor shop_setup [] begin_entry begin_entry.ask login (claims t) → ⊥
none_judged_now t h = no_token_came t h

enters : (t : Text) → bytes_eq t (word_text (word 3)) ≡ true → LoginEntered shop_setup past_callback (tokens_entry 1000 t) (word 26) (codes "alice")
enters t same = record {
  login = login;
  responded = responded t;
  enters = refl;
  claims = claims t;
  judged = judged_now t same;
  sub_is = refl;
  visit_is = refl;
}

let_in : (t : Text) → bytes_eq t (word_text (word 3)) ≡ true → EnteredBy shop_setup (past_entered t) visit
unfolding enters
let_in t same = record {
  later = [];
  maker = pair_of (tokens_entry 1000 t) entered;
  earlier = past_callback;
  parts = refl;
  replied = refl;
  drawn = refl;
  entered_then = refl;
  entered = enters t same;
  nonce_is = refl;
  sid_is = refl;
}

nobody_let_in : EnteredBy shop_setup [] visit → ⊥
nobody_let_in h = no_parts h.later h.maker h.earlier h.parts

responds : (access t h : Text) → Responded past_front (callback_with 1000 access (with_hash t h)) login
responds access t h = record {
  earlier = past_front;
  entry = callback_with 1000 access (with_hash t h);
  heard = heard_front access;
  id = Some (Ok (with_hash t h));
  browser = Some (word 1);
  asked = refl;
  own = record { live = refl; same_browser = refl };
  now_or_before = inl (refl, refl);
}

enters_at_once : (access t h : Text) → bytes_eq t (word_text (word 3)) ≡ true → bytes_eq h (half_hash_of access) ≡ true
    → LoginEntered news_setup past_front (callback_with 1000 access (with_hash t h)) (word 18) (codes "alice")
enters_at_once access t h nonce hash = record {
  login = login;
  responded = responds access t h;
  enters = refl;
  claims = with_hash t h;
  judged = record {
    came = refl;
    rules = front_rules news_setup login (heard_front access);
    issuer_is = refl;
    client_is = refl;
    nonce_is = refl;
    begun_is = refl;
    age_is = refl;
    good = tt;
    judged = rw (nonce, hash) refl;
  };
  sub_is = refl;
  visit_is = refl;
}

-- the law says the same of the whole visit
alice_entered : (t : Text) → bytes_eq t (word_text (word 3)) ≡ true → LoginEntered shop_setup past_callback (tokens_entry 1000 t) (word 26) (codes "alice")
alice_entered t same = sessions_need_a_login shop_setup [] past_callback (pair_of (tokens_entry 1000 t) entered) (word 26) (codes "alice") (entered_is_legal t same) refl

-- where no login was begun nobody enters
none_lives : (at : ℕ) (state : Option Word) (row : LoginRow) → live_login [] at state ≡ Some row → ⊥
none_lives at None row h = cc
none_lives at (Some w) row h = cc

none_responds : (e : Entry RpAsk) (row : LoginRow) → Responded [] e row → ⊥
none_responds e row h =
    let L : RpPast → Type 0 = λ x. live_login x h.entry.at h.heard.state ≡ Some row in
    elim h.now_or_before [
      | inl now ↦ none_lives h.entry.at h.heard.state row (subst L (sym now.0) h.own.live)
      | inr before ↦ no_parts before.later (record { entry = h.entry; reply = before.reply }) h.earlier before.parts
    ]

nobody_enters : (e : Entry RpAsk) (w : Word) (sub : Text) → LoginEntered shop_setup [] e w sub → ⊥
nobody_enters e w sub h = none_responds e h.login h.responded

-- ---- which login enters: the one that the first pair began

place : place_of_login (Some login) ≡ Some 0
place = refl

no_place : place_of_login None ≡ None
no_place = refl

place_of_exchange : place_of_pending (Some waiting) ≡ Some 0
place_of_exchange = refl

no_place_of_exchange : place_of_pending None ≡ None
no_place_of_exchange = refl

tokens_enter_first : (t : Text) → login_entered only_code past_callback (pair_of (tokens_entry 1000 t) entered) ≡ Some 0
tokens_enter_first t = refl

response_enters_first : (access t h : Text) → login_entered id_and_token past_front (pair_of (callback_with 1000 access (with_hash t h)) entered_front) ≡ Some 0
response_enters_first access t h = refl

other_reply_enters_none : (t : Text) → login_entered only_code past_callback (pair_of (tokens_entry 1000 t) NotHere) ≡ None
other_reply_enters_none t = refl

code_enters_none : login_entered only_code past_begin (pair_of (callback_entry 1000 (word 1)) exchange) ≡ None
code_enters_none = refl

no_exchange_enters_late : (t : Text) → login_entered only_code past_callback (pair_of (tokens_entry 1120 t) entered) ≡ None
no_exchange_enters_late t = refl

-- a login is named by the place of the pair that began it: the same browser begins another
the_second : place_of_login (live_login (pair_of (entry_at 1000 5 (ask.Begin (Some (word 1)))) asked ∷ past_begin) 1000 (Some (word 6))) ≡ Some 1
the_second = refl

-- no history has a pair more than the limit of its weight leaves room for
no_history_of_262145_pairs : (history : List RpPair) → length history ≡ 262145 → IsLegalHistory shop_setup history → ⊥
no_history_of_262145_pairs history long legal =
    let short : length history ≤ 262144 = few_stored_pairs ask_weight least_weight history legal.light in
    absurd (omega (arith, long, short))
