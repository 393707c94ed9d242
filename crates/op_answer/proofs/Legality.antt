-- Legal pasts, codes and session words, on the first login: each step is legal, as is a renewal of its session.
use Rattle.std.proofs.Common.{◌≡◌, ◌≤◌, ℕ, true, List, [], ◌∷◌, length, get_or, Some, None, codes, refl, sym, ◌∙◌, ap, subst, arith}
use Rattle.std.specs.Str.{IsUtf8}
use Rattle.sso_base.specs.Words.{Word, Text, IsWord, word_text, word_of_text}
use Rattle.sso_base.specs.Base64Url.{all_bytes}
use Rattle.sso_base.specs.Drawn.{IsDrawn}
use Rattle.sso_base.specs.declared.history.Entry.{Entry}
use Rattle.sso_base.proofs.DrawnWords.{texts_tell_words}
use Rattle.sso_base.specs.Journal.{history_weight}
use Rattle.sso_base.proofs.Histories.{few_stored_pairs}
use Rattle.op_exchange.specs.Weight.{ask_weight}
use Rattle.op_exchange.proofs.LeastWeight.{least_weight}
use Rattle.sso_base.proofs.WordTexts.{word_of_text_some, word_of_text-word_text}
use Rattle.sso_base.proofs.WordUtf8.{IsUtf8-word_text}
use Rattle.op_exchange.specs.declared.ask.OpAsk.{OpAsk}
use Rattle.op_exchange.specs.declared.ask.OpAsk.TheVariants as ask
use Rattle.op_exchange.specs.declared.reply.OpReply.TheVariants.{NotHere}
use Rattle.auth_request.specs.Values.{IsWishValue}
use Rattle.op_exchange.specs.Values.{IsOpAsk}
use Rattle.op_answer.specs.Past.{OpPair}
use Rattle.op_answer.specs.Answering.{op_answer}
use Rattle.op_answer.specs.Legal.{IsLegalOp, IsLegalHistory, code_redeemed, PassedPassword}
use Rattle.op_exchange.specs.Replied.{session_given}
use Rattle.op_exchange.proofs.Sample.{word, sample, wish, callback_uri}
use Rattle.op_answer.proofs.FirstLogin.{entry_at, pair_of, login_page, past_login, login_entry, consent_page, login_gets_consent, past_consent, consent_gets_code, past_code, token_entry, tokens_reply, code_gets_tokens_at_once, past_tokens}
use Rattle.op_answer.proofs.Sessions.{login_is_shown, fresh_turn, alice_is_answered, past_renewed}
use Rattle.op_answer.proofs.Passwords.{session_words_need_a_password}
use Rattle.op_answer.proofs.CodesOnce.{codes_are_answered_once}
use Rattle.json.proofs.Printed.Utf8.{IsUtf8-are_ascii}
use Rattle.sso_base.proofs.Spelling.{IsBytes-from_all_bytes}
use Rattle.op_answer.proofs.FirstLogin.{authorize_entry, authorize_gets_login}

pub is_drawn : (w : Word) → length w ≡ 32 → all_bytes w ≡ true → IsWord w
is_drawn w long bytes = record { long = long; bytes = IsBytes-from_all_bytes w bytes }

-- an ask of texts in UTF-8 and words of 32 bytes
sign_out : IsOpAsk (ask.SignOut (Some (word 9)))
sign_out = is_drawn (word 9) refl refl

no_word : IsOpAsk (ask.SignOut (Some [])) → ⊥
no_word h = let long : ◌≡◌ {A = ℕ} 0 32 = h.long in absurd (omega (arith, long))

-- a code is named by the place of the pair that answered it: here the third
redeems_the_third : (t : Text) → word_of_text t ≡ Some (word 15) → code_redeemed past_code (pair_of (token_entry 1000 t) (tokens_reply 1000)) ≡ Some 2
redeems_the_third t spells = rw spells refl

a_refusal_redeems_none : (t : Text) → code_redeemed past_code (pair_of (token_entry 1000 t) NotHere) ≡ None
a_refusal_redeems_none t = refl

a_login_gives_a_session : session_given consent_page ≡ Some (word 9)
a_login_gives_a_session = refl

a_login_page_gives_none : session_given login_page ≡ None
a_login_page_gives_none = refl

abbrev wrong_entry : Entry OpAsk
wrong_entry = entry_at 1000 9 (ask.Login (Some (word 6)) None (Some (word 5)) None)

-- a wrong password passes none: no session word comes of it
wrong_passed : (w : Word) → PassedPassword past_login wrong_entry w → ⊥
wrong_passed w h = let asked = h.asked in cc

-- ---- a past of one pair is legal with the reply that is defined, and with no other

pub wish_is_value : IsWishValue wish
wish_is_value =
    record {
      client = omega arith;
      redirect = IsUtf8-are_ascii callback_uri refl;
      state = IsUtf8-are_ascii (codes "state") refl;
      nonce = IsUtf8-are_ascii (codes "nonce") refl;
      max_age = tt;
      subs = tt;
      id_asked = tt;
      info_asked = tt;
    }

pub login_is_legal : IsLegalOp sample past_login
login_is_legal = (
  tt,
  record {
    moment = omega arith;
    four = refl;
    words = (is_drawn (word 5) refl refl, (is_drawn (word 6) refl refl, (is_drawn (word 7) refl refl, (is_drawn (word 8) refl refl, tt))));
    ask = (wish_is_value, tt, tt);
  },
  omega arith,
  sym authorize_gets_login,
)

other_reply_is_not_legal : IsLegalOp sample (pair_of authorize_entry NotHere ∷ []) → ⊥
other_reply_is_not_legal h = let told : NotHere ≡ login_page = h.3 ∙ authorize_gets_login in cc

-- ---- and so is each longer past of the first login

pub consent_is_legal : IsLegalOp sample past_consent
consent_is_legal = (
  login_is_legal,
  record {
    moment = omega arith;
    four = refl;
    words = (is_drawn (word 9) refl refl, (is_drawn (word 10) refl refl, (is_drawn (word 11) refl refl, (is_drawn (word 12) refl refl, tt))));
    ask = (is_drawn (word 6) refl refl, omega arith, is_drawn (word 5) refl refl, tt);
  },
  omega arith,
  sym login_gets_consent,
)

pub code_is_legal : IsLegalOp sample past_code
code_is_legal = (
  consent_is_legal,
  record {
    moment = omega arith;
    four = refl;
    words = (is_drawn (word 13) refl refl, (is_drawn (word 14) refl refl, (is_drawn (word 15) refl refl, (is_drawn (word 16) refl refl, tt))));
    ask = (is_drawn (word 6) refl refl, is_drawn (word 5) refl refl, is_drawn (word 9) refl refl);
  },
  omega arith,
  sym consent_gets_code,
)

-- the text of the code is that of its word
code_text : (t : Text) → word_of_text t ≡ Some (word 15) → IsUtf8 t
code_text t spells = subst IsUtf8 (sym (word_of_text_some t (word 15) spells).0) (IsUtf8-word_text (word 15))

pub tokens_are_legal : (t : Text) → word_of_text t ≡ Some (word 15) → IsLegalOp sample (past_tokens t)
tokens_are_legal t spells = (
  code_is_legal,
  record {
    moment = omega arith;
    four = refl;
    words = (is_drawn (word 21) refl refl, (is_drawn (word 22) refl refl, (is_drawn (word 23) refl refl, (is_drawn (word 24) refl refl, tt))));
    ask = record { client = omega arith; code = code_text t spells; redirect = IsUtf8-are_ascii callback_uri refl };
  },
  omega arith,
  sym (code_gets_tokens_at_once t spells),
)

-- there is such a text
pub code_is_spelled : word_of_text (word_text (word 15)) ≡ Some (word 15)
code_is_spelled = word_of_text-word_text (word 15) (is_drawn (word 15) refl refl)

time_goes_back : IsLegalOp sample (pair_of (entry_at 999 9 (ask.SignOut None)) NotHere ∷ past_login) → ⊥
time_goes_back h = let late : 1000 ≤ 999 = h.2 in absurd (omega (arith, late))

-- ---- and a past in which a second login of the same user renews the session

login_wish_is_value : IsWishValue (record wish { login = true })
login_wish_is_value =
    let w = wish_is_value in
    record { client = w.client; redirect = w.redirect; state = w.state; nonce = w.nonce; max_age = tt; subs = tt; id_asked = tt; info_asked = tt }

fresh_turn_is_legal : IsLegalOp sample fresh_turn
fresh_turn_is_legal = (
  code_is_legal,
  record {
    moment = omega arith;
    four = refl;
    words = (is_drawn (word 37) refl refl, (is_drawn (word 38) refl refl, (is_drawn (word 39) refl refl, (is_drawn (word 40) refl refl, tt))));
    ask = (login_wish_is_value, is_drawn (word 5) refl refl, is_drawn (word 9) refl refl);
  },
  omega arith,
  sym login_is_shown,
)

pub renewal_is_legal : IsLegalOp sample past_renewed
renewal_is_legal = (
  fresh_turn_is_legal,
  record {
    moment = omega arith;
    four = refl;
    words = (is_drawn (word 41) refl refl, (is_drawn (word 42) refl refl, (is_drawn (word 43) refl refl, (is_drawn (word 44) refl refl, tt))));
    ask = (is_drawn (word 38) refl refl, omega arith, is_drawn (word 37) refl refl, is_drawn (word 9) refl refl);
  },
  omega arith,
  sym alice_is_answered,
)

-- ---- session words and codes in these pasts, by the laws

-- the consent page of the login passed a password
login_passed : PassedPassword past_login login_entry (word 9)
login_passed = session_words_need_a_password sample [] past_login (pair_of login_entry consent_page) (word 9) consent_is_legal refl

-- after the tokens no later pair is answered tokens for the third pair's code
no_second_tokens : (t : Text) (q : OpPair) → word_of_text t ≡ Some (word 15) → IsLegalOp sample (q ∷ past_tokens t) → code_redeemed (past_tokens t) q ≡ Some 2 → ⊥
no_second_tokens t q spells legal again =
    codes_are_answered_once sample [] [] past_code (pair_of (token_entry 1000 t) (tokens_reply 1000)) q 2 legal (redeems_the_third t spells) again

-- ---- the words that this past drew

abbrev pub login_pair : OpPair
login_pair = pair_of authorize_entry login_page

browser_is_drawn : IsDrawn past_login (word 5)
browser_is_drawn = record { later = []; maker = login_pair; earlier = []; parts = refl; number = 0; low = omega arith; drawn = refl }

turn_is_drawn : IsDrawn past_login (word 6)
turn_is_drawn = record { later = []; maker = login_pair; earlier = []; parts = refl; number = 1; low = omega arith; drawn = refl }

a_drawn_word_has_its_text : (v : Word) → IsDrawn past_login v → word_text v ≡ word_text (word 6) → v ≡ word 6
a_drawn_word_has_its_text v drawn same = texts_tell_words IsOpAsk (op_answer sample) past_login v (word 6) login_is_legal drawn turn_is_drawn same

not_the_text_of_another : word_text (word 5) ≡ word_text (word 6) → ⊥
not_the_text_of_another same =
    let k : word 5 ≡ word 6 =
    texts_tell_words IsOpAsk (op_answer sample) past_login (word 5) (word 6) login_is_legal browser_is_drawn turn_is_drawn same in
    let last : List ℕ → ℕ = λ w. get_or w 31 0 in
    let n : ◌≡◌ {A = ℕ} 5 6 = ap last k in absurd (omega (arith, n))

-- ---- a legal history

login_is_a_history : IsLegalHistory sample (login_pair ∷ [])
login_is_a_history = record { past = login_is_legal; light = (let light : history_weight ask_weight (login_pair ∷ []) ≤ 268435456 = omega arith in light) }

no_history_with_another_reply : IsLegalHistory sample (pair_of authorize_entry NotHere ∷ []) → ⊥
no_history_with_another_reply h = other_reply_is_not_legal h.past

-- no history has a pair more than the limit of its weight leaves room for
no_history_of_262145_pairs : (history : List OpPair) → length history ≡ 262145 → IsLegalHistory sample history → ⊥
no_history_of_262145_pairs history long legal =
    let short : length history ≤ 262144 = few_stored_pairs ask_weight least_weight history legal.light in
    absurd (omega (arith, long, short))
