-- A login by code with a challenge, whole, whose words are all different: the laws are said over its history, and its verifier, the only
-- one, gets the tokens.
use Rattle.std.proofs.Common.{◌≡◌, ℕ, true, false, List, [], ◌∷◌, ◌++◌, length, Option, Some, None, Ok, codes, refl, ap, sym, ◌∙◌, subst, inr, arith}
use Rattle.std.specs.Str.{IsUtf8}
use Rattle.sso_base.proofs.Utf8Bytes.{IsUtf8-are_ascii}
use Rattle.sha2.specs.Sha256.{sha256}
use Rattle.sha2.proofs.Facts256.{length-sha256}
use Rattle.sso_base.specs.Words.{Word, Text, IsWord, word_text, word_of_text, fresh_word}
use Rattle.sso_base.specs.Base64Url.{all_bytes}
use Rattle.sso_base.specs.Legal.{IsEntry}
use Rattle.sso_base.specs.Drawn.{IsDrawn}
use Rattle.sso_base.specs.declared.history.Entry.{Entry}
use Rattle.sso_base.proofs.Spelling.{IsBytes-from_all_bytes, length-b64u_32}
use Rattle.sso_base.proofs.WordTexts.{word_of_text_some, word_of_text-word_text}
use Rattle.sso_base.proofs.WordUtf8.{IsUtf8-word_text}
use Rattle.auth_request.specs.Values.{IsWishValue}
use Rattle.token_endpoint.specs.declared.granting.Grant.{Grant}
use Rattle.op_exchange.specs.declared.ask.OpAsk.{OpAsk}
use Rattle.op_exchange.specs.declared.ask.OpAsk.TheVariants as ask
use Rattle.op_exchange.specs.declared.reply.OpReply.{OpReply}
use Rattle.op_exchange.specs.Values.{IsOpAsk}
use Rattle.op_exchange.proofs.Sample.{word, words, sample, wish, callback_uri}
use Rattle.op_answer.specs.Past.{OpPair}
use Rattle.op_answer.specs.Legal.{IsLegalOp}
use Rattle.op_answer.proofs.FirstLogin.{pair_of, authorize_entry, authorize_gets_login, login_page, past_login, login_entry, consent_page, login_gets_consent, past_consent, consent_entry, code_answer, consent_gets_code, past_code, token_entry, tokens_reply, code_gets_tokens_at_once, past_tokens}
use Rattle.core_stack.specs.Asked.{CodeAsked}
use Rattle.core_stack.specs.Stacked.{IsProvided}
use Rattle.core_stack.proofs.Samples.{is_provided}
use Rattle.core_stack.proofs.NewWords.{AreBelow, words_below, no_word_again}
use Rattle.pkce_answer.specs.declared.asks.Challenge.{Challenge}
use Rattle.pkce_answer.specs.declared.asks.Challenge.TheVariants as challenge
use Rattle.pkce_answer.specs.declared.asks.Verifier.{Verifier}
use Rattle.pkce_answer.specs.declared.asks.Verifier.TheVariants as verifier
use Rattle.pkce_answer.specs.declared.asks.PkceAsk.{PkceAsk}
use Rattle.pkce_answer.specs.declared.asks.PkceReply.TheVariants.{Through}
use Rattle.pkce_answer.specs.Challenges.{Digest, challenge_of, asked_mark, IsChallenge, IsPkceAsk}
use Rattle.pkce_answer.specs.Around.{Outer, outer_plain, outer_given}
use Rattle.pkce_answer.specs.Answering.{token_refusal, IsReply, code_challenge, IsPkceHistory}
use Rattle.pkce_answer.specs.Laws.{HasNewWords, IsOnlyVerifier, WasAsked, IsRedeemed}
use Rattle.pkce_answer.proofs.Redeeming.{only_verifier}
use Rattle.pkce_answer.proofs.Histories.{asked_in, one_in, redeemed_in}
use Rattle.pkce_answer.proofs.Samples.{takes_its_verifier}

abbrev plain : OpAsk → Option OpAsk
plain asked = Some asked

abbrev given : OpReply → Option OpReply
given reply = Some reply

abbrev itself : List OpPair → List OpPair
itself h = h

-- ---- the provider inside: each step of the first login is legal

is_drawn : (n : ℕ) → length (word n) ≡ 32 → all_bytes (word n) ≡ true → IsWord (word n)
is_drawn n long bytes = record { long = long; bytes = IsBytes-from_all_bytes (word n) bytes }

wish_is_value : IsWishValue wish
wish_is_value =
    record {
      client = omega arith;
      redirect = IsUtf8-are_ascii callback_uri refl;
      state = IsUtf8-are_ascii (codes "state") refl;
      nonce = IsUtf8-are_ascii (codes "nonce") refl;
      max_age = tt;
      subs = tt;
      id_asked = tt;
      info_asked = tt;
    }

authorize_is_entry : IsEntry IsOpAsk authorize_entry
authorize_is_entry =
    record {
      moment = omega arith;
      four = refl;
      words = (is_drawn 5 refl refl, (is_drawn 6 refl refl, (is_drawn 7 refl refl, (is_drawn 8 refl refl, tt))));
      ask = (wish_is_value, tt, tt);
    }

login_is_entry : IsEntry IsOpAsk login_entry
login_is_entry =
    record {
      moment = omega arith;
      four = refl;
      words = (is_drawn 9 refl refl, (is_drawn 10 refl refl, (is_drawn 11 refl refl, (is_drawn 12 refl refl, tt))));
      ask = (is_drawn 6 refl refl, omega arith, is_drawn 5 refl refl, tt);
    }

consent_is_entry : IsEntry IsOpAsk consent_entry
consent_is_entry =
    record {
      moment = omega arith;
      four = refl;
      words = (is_drawn 13 refl refl, (is_drawn 14 refl refl, (is_drawn 15 refl refl, (is_drawn 16 refl refl, tt))));
      ask = (is_drawn 6 refl refl, is_drawn 5 refl refl, is_drawn 9 refl refl);
    }

-- the text of the code is that of its word
code_text : (t : Text) → word_of_text t ≡ Some (word 15) → IsUtf8 t
code_text t spells = subst IsUtf8 (sym (word_of_text_some t (word 15) spells).0) (IsUtf8-word_text (word 15))

token_is_entry : (t : Text) → word_of_text t ≡ Some (word 15) → IsEntry IsOpAsk (token_entry 1000 t)
token_is_entry t spells =
    record {
      moment = omega arith;
      four = refl;
      words = (is_drawn 21 refl refl, (is_drawn 22 refl refl, (is_drawn 23 refl refl, (is_drawn 24 refl refl, tt))));
      ask = record { client = omega arith; code = code_text t spells; redirect = IsUtf8-are_ascii callback_uri refl };
    }

code_is_legal : IsLegalOp sample past_code
code_is_legal =
    (((tt, authorize_is_entry, omega arith, sym authorize_gets_login), login_is_entry, omega arith, sym login_gets_consent), consent_is_entry, omega arith, sym consent_gets_code)

tokens_are_legal : (t : Text) → word_of_text t ≡ Some (word 15) → IsLegalOp sample (past_tokens t)
tokens_are_legal t spells = (code_is_legal, token_is_entry t spells, omega arith, sym (code_gets_tokens_at_once t spells))

-- there is such a text
code_is_spelled : word_of_text (word_text (word 15)) ≡ Some (word 15)
code_is_spelled = word_of_text-word_text (word 15) (is_drawn 15 refl refl)

-- ---- the login with a challenge

abbrev asked_around : Challenge → Verifier → OpAsk → PkceAsk OpAsk
asked_around c v asked = record { inner = asked; challenge = c; verifier = v }

abbrev entry_around : Challenge → Verifier → Entry OpAsk → Entry (PkceAsk OpAsk)
entry_around c v e = record { at = e.at; fresh = e.fresh; ask = asked_around c v e.ask }

abbrev passed_pair : Challenge → Verifier → Entry OpAsk → OpReply → Outer OpAsk OpReply
passed_pair c v e reply = record { entry = entry_around c v e; reply = Through reply }

abbrev begun : Digest → Outer OpAsk OpReply
begun digest = passed_pair (challenge.S256 digest) verifier.Absent authorize_entry login_page

abbrev logged_in : Outer OpAsk OpReply
logged_in = passed_pair challenge.Absent verifier.Absent login_entry consent_page

abbrev agreed : Outer OpAsk OpReply
agreed = passed_pair challenge.Absent verifier.Absent consent_entry code_answer

abbrev redeemed : Text → List ℕ → Outer OpAsk OpReply
redeemed t text = passed_pair challenge.Absent (verifier.Given text) (token_entry 1000 t) (tokens_reply 1000)

abbrev before : Digest → List (Outer OpAsk OpReply)
before digest = begun digest ∷ logged_in ∷ agreed ∷ []

abbrev past : Digest → List (Outer OpAsk OpReply)
past digest = agreed ∷ logged_in ∷ begun digest ∷ []

is_entry_around : (c : Challenge) (v : Verifier) (e : Entry OpAsk) → IsChallenge c → IsEntry IsOpAsk e → IsEntry (IsPkceAsk IsOpAsk) (entry_around c v e)
is_entry_around c v e fits is = record { moment = is.moment; four = is.four; words = is.words; ask = (is.ask, fits) }

challenge_is_long : (text : List ℕ) → length (challenge_of text) ≡ 43
challenge_is_long text = length-b64u_32 (sha256 text) (length-sha256 text)

before_is_a_history : (digest : Digest) → length digest ≡ 43 → IsPkceHistory plain given given itself IsOpAsk sample (before digest)
before_is_a_history digest long =
    record {
      answered = (
        (
          (tt, is_entry_around (challenge.S256 digest) verifier.Absent authorize_entry long authorize_is_entry, omega arith, (login_page, refl)),
          is_entry_around challenge.Absent verifier.Absent login_entry tt login_is_entry,
          omega arith,
          (consent_page, refl),
        ),
        is_entry_around challenge.Absent verifier.Absent consent_entry tt consent_is_entry,
        omega arith,
        (code_answer, refl),
      );
      inner = is_provided (pair_of authorize_entry login_page ∷ pair_of login_entry consent_page ∷ pair_of consent_entry code_answer ∷ []) code_is_legal;
    }

-- the core finds the challenge of the code
code_is_challenged : (digest : Digest) → code_challenge plain given (past digest) 1000 (Some (word 15)) ≡ Some digest
code_is_challenged digest = refl

challenged : (t : Text) (digest : Digest) → word_of_text t ≡ Some (word 15) → code_challenge plain given (past digest) 1000 (word_of_text t) ≡ Some digest
challenged t digest spells =
    let C : Option Word → Option Digest = λ w. code_challenge plain given (past digest) 1000 w in
    ap C spells ∙ code_is_challenged digest

not_refused : (t : Text) (text : List ℕ) → word_of_text t ≡ Some (word 15)
    → token_refusal (code_challenge plain given (past (challenge_of text)) 1000 (word_of_text t)) (verifier.Given text) ≡ None
not_refused t text spells =
    let T : Option Digest → Option OpReply = λ d. token_refusal d (verifier.Given text) in
    ap T (challenged t (challenge_of text) spells) ∙ takes_its_verifier text

whole_is_a_history : (t : Text) (text : List ℕ) → word_of_text t ≡ Some (word 15)
    → IsPkceHistory plain given given itself IsOpAsk sample (before (challenge_of text) ++ redeemed t text ∷ [])
whole_is_a_history t text spells =
    let S : Option OpReply → Type 0 = λ o. IsReply o (Through (tokens_reply 1000)) in
    let first = before_is_a_history (challenge_of text) (challenge_is_long text) in
    record {
      answered = (
        first.answered,
        is_entry_around challenge.Absent (verifier.Given text) (token_entry 1000 t) tt (token_is_entry t spells),
        omega arith,
        subst S (sym (not_refused t text spells)) (tokens_reply 1000, refl),
      );
      inner = is_provided
          (pair_of authorize_entry login_page ∷ pair_of login_entry consent_page ∷ pair_of consent_entry code_answer ∷ pair_of (token_entry 1000 t) (tokens_reply 1000) ∷ [])
          (tokens_are_legal t spells);
    }

-- ---- its verifier is the only one

abbrev verifier_in : List ℕ → Verifier → List ℕ
verifier_in other (verifier.Given text) = text
verifier_in other v = other

absent_is_none : (text other : List ℕ) → verifier.Absent ≡ verifier.Given other → challenge_of other ≡ challenge_of text → other ≡ text
absent_is_none text other is same = absurd (cc)

given_is_one : (text other : List ℕ) → verifier.Given text ≡ verifier.Given other → challenge_of other ≡ challenge_of text → other ≡ text
given_is_one text other is same = let G : Verifier → List ℕ = λ v. verifier_in text v in sym (ap G is)

only_one : (t : Text) (text : List ℕ) → IsOnlyVerifier (redeemed t text ∷ past (challenge_of text)) text
only_one t text =
    ((((tt, λ other is same. absent_is_none text other is same), λ other is same. absent_is_none text other is same), λ other is same. absent_is_none text other is same), λ other is same. given_is_one text other is same)

-- one with the same challenge is another
not_with_another : (t : Text) (text other : List ℕ) → challenge_of other ≡ challenge_of text → (other ≡ text → ⊥) → IsOnlyVerifier (redeemed t other ∷ []) text → ⊥
not_with_another t text other same apart alone = apart (alone.1 other refl same)

abbrev grant : Text → Grant
grant t = record { client = 0; code = t; redirect = callback_uri }

-- so the premises of both clauses are met
gets_tokens : (t : Text) (text : List ℕ) → word_of_text t ≡ Some (word 15) → IsRedeemed plain given (past (challenge_of text)) (pair_of authorize_entry login_page ∷ pair_of login_entry consent_page ∷ pair_of consent_entry code_answer ∷ []) (redeemed t text).entry (grant t)
gets_tokens t text spells =
    redeemed_in plain given given IsOpAsk itself refl sample (before (challenge_of text)) (redeemed t text) (grant t) _ _
    (whole_is_a_history t text spells) refl refl

shows_its_verifier : (t : Text) (text : List ℕ) → word_of_text t ≡ Some (word 15) → (redeemed t text).entry.ask.verifier ≡ verifier.Given text
shows_its_verifier t text spells =
    only_verifier plain given (past (challenge_of text)) (pair_of authorize_entry login_page ∷ pair_of login_entry consent_page ∷ pair_of consent_entry code_answer ∷ []) (redeemed t text) (grant t) text
    (gets_tokens t text spells) (challenged t (challenge_of text) spells) (only_one t text)

-- ---- its code was requested once

held_code_was_asked : (digest : Digest) → length digest ≡ 43 → WasAsked plain given (past digest) 1000 (word 15) (record { word = word 15; wish = wish; user = 0; sid = word 10; auth_time = 1000; issued = 1000; spent = false; by = 2 })
held_code_was_asked digest long = asked_in plain given given IsOpAsk itself refl sample (before digest) 1000 (word 15) _ (before_is_a_history digest long) refl

words_are_new : (digest : Digest) → HasNewWords (past digest)
words_are_new digest = (
  (
    (tt, λ k low drawn. no_word_again 5 [] tt k low drawn),
    λ k low drawn. no_word_again 9 (begun digest ∷ []) (tt, λ n less. words_below 5 9 (omega arith) n less) k low drawn,
  ),
  λ k low drawn. no_word_again 13 (logged_in ∷ begun digest ∷ []) ((tt, λ n less. words_below 5 13 (omega arith) n less), λ n less. words_below 9 13 (omega arith) n less) k low drawn,
)

asked_once : (digest : Digest) → CodeAsked (outer_plain plain) (outer_given given) asked_mark (past digest) (word 15) (Some digest) wish
asked_once digest =
    inr (record {
      later = [];
      form = agreed;
      earlier = logged_in ∷ begun digest ∷ [];
      parts = refl;
      request = ask.Consent (Some (word 6)) true (Some (word 5)) (Some (word 9));
      asked = refl;
      response = code_answer;
      answered = refl;
      code_is = refl;
      turn = word 6;
      named = refl;
      begun = record {
        later = logged_in ∷ [];
        maker = begun digest;
        earlier = [];
        parts = refl;
        browser = None;
        presented = None;
        asked = refl;
        page = login_page;
        answered = refl;
        turn_is = refl;
        mark_is = refl;
      };
    })

with_no_other_challenge : (digest other : Digest) → length digest ≡ 43 → CodeAsked (outer_plain plain) (outer_given given) asked_mark (past digest) (word 15) (Some other) wish → Some digest ≡ Some other
with_no_other_challenge digest other long asked =
    (one_in plain given given IsOpAsk itself refl sample (before digest) (word 15) (Some digest) (Some other) wish wish (before_is_a_history digest long) (words_are_new digest) (asked_once digest) asked).0
