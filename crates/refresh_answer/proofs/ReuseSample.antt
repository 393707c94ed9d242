-- A login by code with offline access and consent, a refresh, and then the old refresh token again, or the code: the family ends. The words
-- are all different, so the premises of the laws are met.
use Rattle.std.proofs.Common.{◌≡◌, ◌≤◌, ℕ, true, false, List, [], ◌∷◌, length, Option, Some, None, Ok, option_and_then, refl, sym, ap, ◌∙◌, subst, inl, inr, arith}
use Rattle.std.specs.Str.{IsUtf8}
use Rattle.sso_base.specs.Words.{Word, Text, IsWord, word_text, word_of_text, fresh_word}
use Rattle.sso_base.specs.Base64Url.{all_bytes}
use Rattle.sso_base.specs.Rows.{row_of}
use Rattle.sso_base.specs.Legal.{IsEntry}
use Rattle.sso_base.specs.declared.history.Entry.{Entry}
use Rattle.sso_base.proofs.Spelling.{IsBytes-from_all_bytes}
use Rattle.sso_base.proofs.WordTexts.{word_of_text_some, word_of_text-word_text}
use Rattle.sso_base.proofs.WordUtf8.{IsUtf8-word_text}
use Rattle.code_grant.specs.declared.rows.CodeRow.{CodeRow}
use Rattle.token_endpoint.specs.declared.granting.Grant.{Grant}
use Rattle.token_endpoint.specs.declared.error.TokenError.TheVariants.{InvalidGrant}
use Rattle.op_exchange.specs.declared.ask.OpAsk.{OpAsk}
use Rattle.op_exchange.specs.declared.ask.OpAsk.TheVariants as op_ask
use Rattle.op_exchange.specs.declared.reply.OpReply.{OpReply}
use Rattle.op_exchange.specs.declared.reply.OpReply.TheVariants as op_reply
use Rattle.op_exchange.proofs.Sample.{word, words, sample, wish, profile_scopes, callback_uri}
use Rattle.op_answer.specs.Past.{OpPair}
use Rattle.op_answer.proofs.FirstLogin.{authorize_entry, login_page, login_entry, consent_page, consent_entry, code_answer, token_entry, tokens_reply}
use Rattle.core_stack.proofs.NewWords.{AreBelow, words_below, no_word_again}
use Rattle.refresh_answer.specs.declared.asks.RefreshGrant.{RefreshGrant}
use Rattle.refresh_answer.specs.declared.asks.RefreshAsk.{RefreshAsk}
use Rattle.refresh_answer.specs.declared.asks.RefreshAsk.TheVariants as ask
use Rattle.refresh_answer.specs.declared.asks.OwnReply.{OwnReply}
use Rattle.refresh_answer.specs.declared.asks.OwnReply.TheVariants as own
use Rattle.refresh_answer.specs.declared.asks.RefreshReply.{RefreshReply}
use Rattle.refresh_answer.specs.declared.asks.RefreshReply.TheVariants.{Through, First, Own}
use Rattle.refresh_answer.specs.declared.rows.FamilyRow.{FamilyRow}
use Rattle.refresh_answer.specs.declared.rows.RefreshRow.{RefreshRow}
use Rattle.refresh_answer.specs.Rows.{token_name, new_token, old_token}
use Rattle.refresh_answer.specs.Around.{Outer, IsRefreshAsk}
use Rattle.refresh_answer.specs.Families.{tokens, families, code_presented, held_in, living_in}
use Rattle.refresh_answer.specs.Answering as answering
use Rattle.refresh_answer.specs.Answering.{refreshed_by, with_first, IsRefreshReply, IsRefreshPast}
use Rattle.refresh_answer.specs.Laws.{HasNewWords, WasTokenOf, IsReuse, IsRepeatedCode, EndsFamily}

abbrev plain : OpAsk → Option OpAsk
plain asked = Some asked

abbrev given : OpReply → Option OpReply
given reply = Some reply

abbrev itself : List OpPair → List OpPair
itself h = h

-- any request of the provider
abbrev Any : OpAsk → Type 0
Any asked = Unit {0}

-- ---- the pairs

abbrev passed_entry : Entry OpAsk → Entry (RefreshAsk OpAsk)
passed_entry e = record { at = e.at; fresh = e.fresh; ask = ask.Through e.ask true }

abbrev passed_pair : Entry OpAsk → RefreshReply OpReply → Outer OpAsk OpReply
passed_pair e reply = record { entry = passed_entry e; reply = reply }

abbrev grant : Text → RefreshGrant
grant t = record { client = 0; token = t }

abbrev refresh_pair : ℕ → Text → RefreshReply OpReply → Outer OpAsk OpReply
refresh_pair n t reply = record { entry = record { at = 1000; fresh = words n; ask = ask.Refresh (Ok (grant t)) }; reply = reply }

abbrev before : List (Outer OpAsk OpReply)
before = passed_pair consent_entry (Through code_answer) ∷ passed_pair login_entry (Through consent_page) ∷ passed_pair authorize_entry (Through login_page) ∷ []

-- the family of the fourth pair
abbrev family : FamilyRow
family = record { by = 3; code = word 15; client = 0; user = 0; scopes = profile_scopes; asked = []; begun = 1000 }

-- the reply to a refresh request, by the tokens and the families before it
answered_by : (past : List (Outer OpAsk OpReply)) (n : ℕ) (t : Text) (w : Word) (row : RefreshRow) (ts : List RefreshRow) (fs : List FamilyRow)
    → word_of_text t ≡ Some w → tokens plain given itself past ≡ ts → families plain given itself past ≡ fs → row_of token_name w ts ≡ Some row
    → answering.refresh_reply plain given itself past 1000 (words n) (Ok (grant t))
    ≡ refreshed_by (held_in fs 1000 ts) (words n) (grant t) row (living_in fs 1000 row.family)
answered_by past n t w row ts fs spells tokens_are families_are found =
    let before : List RefreshRow = tokens plain given itself past in
    let named : option_and_then (λ v. row_of token_name v before) (word_of_text t) ≡ Some row =
    ap (λ o. option_and_then (λ v. row_of token_name v before) o) spells ∙ ap (λ l. row_of token_name w l) tokens_are ∙ found in
    ap (λ o. answering.refreshed plain given itself past 1000 (words n) (grant t) o) named
    ∙ ap (λ l. refreshed_by (held_in l 1000 before) (words n) (grant t) row (living_in l 1000 row.family)) families_are
    ∙ ap (λ l. refreshed_by (held_in fs 1000 l) (words n) (grant t) row (living_in fs 1000 row.family)) tokens_are

own_is : (o p : OwnReply) → o ≡ p → ◌≡◌ {A = RefreshReply OpReply} (Own p) (Own o)
own_is o p same = ap (λ (x : OwnReply). Own x) (sym same)

module _ (code first second : Text) (spells : word_of_text code ≡ Some (word 15)) (spells_first : word_of_text first ≡ Some (word 22)) (spells_second : word_of_text second ≡ Some (word 26)) where
  abbrev began : List (Outer OpAsk OpReply)
  began = passed_pair (token_entry 1000 code) (First (tokens_reply 1000) (word 22)) ∷ before

  abbrev refreshed : List (Outer OpAsk OpReply)
  refreshed = refresh_pair 25 first (Own (own.Refreshed (word 25) (word 26) profile_scopes)) ∷ began

  abbrev reuse : Outer OpAsk OpReply
  reuse = refresh_pair 29 first (Own (own.Refused InvalidGrant))

  abbrev late : Outer OpAsk OpReply
  late = refresh_pair 33 second (Own (own.Refused InvalidGrant))

  abbrev code_again : Outer OpAsk OpReply
  code_again = passed_pair (record { at = 1000; fresh = words 29; ask = (token_entry 1000 code).ask }) (Through (op_reply.TokenRefused InvalidGrant))

  -- ---- rows

  family_began : families plain given itself began ≡ family ∷ []
  family_began = rw spells refl

  family_lives : families plain given itself refreshed ≡ family ∷ []
  family_lives = rw (spells, spells_first) refl

  abbrev after_refresh : List RefreshRow
  after_refresh = old_token (new_token 3 (word 22)) ∷ new_token 3 (word 26) ∷ []

  tokens_after : tokens plain given itself refreshed ≡ after_refresh
  tokens_after = rw spells_first refl

  family_ended : families plain given itself (reuse ∷ refreshed) ≡ []
  family_ended = rw (spells, spells_first) refl

  family_ended_by_its_code : families plain given itself (code_again ∷ refreshed) ≡ []
  family_ended_by_its_code = rw (spells, spells_first) refl

  -- ---- the pairs that end it

  is_reuse : IsReuse plain given itself refreshed reuse family
  is_reuse =
      record {
        begun = record { later = []; earlier = refreshed; parts = refl; stands = rw (spells, spells_first) refl };
        grant = grant first;
        asked = refl;
        client = refl;
        row = old_token (new_token 3 (word 22));
        presented_is = rw spells_first refl;
        old = refl;
        family = refl;
      }

  abbrev spent_code : CodeRow
  spent_code = record { word = word 15; wish = wish; user = 0; sid = word 10; auth_time = 1000; issued = 1000; spent = true; by = 2 }

  is_repeated : IsRepeatedCode plain given itself refreshed code_again family
  is_repeated =
      record {
        begun = record { later = []; earlier = refreshed; parts = refl; stands = rw (spells, spells_first) refl };
        grant = record { client = 0; code = code; redirect = callback_uri };
        asked = refl;
        client = refl;
        code = spent_code;
        held = rw spells refl;
        spent = refl;
        code_is = refl;
      }

  -- both end the family
  ends_by_reuse : EndsFamily plain given itself refreshed reuse family
  ends_by_reuse = inl is_reuse

  ends_by_code : EndsFamily plain given itself refreshed code_again family
  ends_by_code = inr is_repeated

  -- a token that came after the one that is presented again is one of the family's
  is_token : WasTokenOf plain given itself (late ∷ reuse ∷ refreshed) 3 (word 26)
  is_token =
      record {
        later = late ∷ reuse ∷ [];
        earlier = refreshed;
        parts = refl;
        token = record { row = new_token 3 (word 26); stands = rw spells_first refl; family = refl };
      }

  -- ---- the replies are those of the core

  is_drawn : (n : ℕ) → length (word n) ≡ 32 → all_bytes (word n) ≡ true → IsWord (word n)
  is_drawn n long bytes = record { long = long; bytes = IsBytes-from_all_bytes (word n) bytes }

  text_is_utf8 : (t : Text) (n : ℕ) → word_of_text t ≡ Some (word n) → IsUtf8 t
  text_is_utf8 t n is = subst IsUtf8 (sym (word_of_text_some t (word n) is).0) (IsUtf8-word_text (word n))

  before_is_answered : IsRefreshPast plain given itself Any sample before
  before_is_answered = (
    (
      (
        tt,
        record { moment = omega arith; four = refl; words = (is_drawn 5 refl refl, (is_drawn 6 refl refl, (is_drawn 7 refl refl, (is_drawn 8 refl refl, tt)))); ask = tt },
        omega arith,
        (login_page, refl),
      ),
      record { moment = omega arith; four = refl; words = (is_drawn 9 refl refl, (is_drawn 10 refl refl, (is_drawn 11 refl refl, (is_drawn 12 refl refl, tt)))); ask = tt },
      omega arith,
      (consent_page, refl),
    ),
    record { moment = omega arith; four = refl; words = (is_drawn 13 refl refl, (is_drawn 14 refl refl, (is_drawn 15 refl refl, (is_drawn 16 refl refl, tt)))); ask = tt },
    omega arith,
    (code_answer, refl),
  )

  began_is_answered : IsRefreshPast plain given itself Any sample began
  began_is_answered = (
    before_is_answered,
    record { moment = omega arith; four = refl; words = (is_drawn 21 refl refl, (is_drawn 22 refl refl, (is_drawn 23 refl refl, (is_drawn 24 refl refl, tt)))); ask = tt },
    omega arith,
    (tokens_reply 1000, rw spells refl),
  )

  refreshed_is_answered : IsRefreshPast plain given itself Any sample refreshed
  refreshed_is_answered = (
    began_is_answered,
    record {
      moment = omega arith;
      four = refl;
      words = (is_drawn 25 refl refl, (is_drawn 26 refl refl, (is_drawn 27 refl refl, (is_drawn 28 refl refl, tt))));
      ask = (omega arith, text_is_utf8 first 22 spells_first);
    },
    omega arith,
    own_is (answering.refresh_reply plain given itself began 1000 (words 25) (Ok (grant first))) (own.Refreshed (word 25) (word 26) profile_scopes)
        (answered_by began 25 first (word 22) (new_token 3 (word 22)) (new_token 3 (word 22) ∷ []) (family ∷ []) spells_first refl family_began refl),
  )

  reuse_is_answered : IsRefreshPast plain given itself Any sample (reuse ∷ refreshed)
  reuse_is_answered = (
    refreshed_is_answered,
    record {
      moment = omega arith;
      four = refl;
      words = (is_drawn 29 refl refl, (is_drawn 30 refl refl, (is_drawn 31 refl refl, (is_drawn 32 refl refl, tt))));
      ask = (omega arith, text_is_utf8 first 22 spells_first);
    },
    omega arith,
    own_is (answering.refresh_reply plain given itself refreshed 1000 (words 29) (Ok (grant first))) (own.Refused InvalidGrant)
        (answered_by refreshed 29 first (word 22) (old_token (new_token 3 (word 22))) after_refresh (family ∷ []) spells_first tokens_after family_lives refl),
  )

  late_is_answered : IsRefreshPast plain given itself Any sample (late ∷ reuse ∷ refreshed)
  late_is_answered = (
    reuse_is_answered,
    record {
      moment = omega arith;
      four = refl;
      words = (is_drawn 33 refl refl, (is_drawn 34 refl refl, (is_drawn 35 refl refl, (is_drawn 36 refl refl, tt))));
      ask = (omega arith, text_is_utf8 second 26 spells_second);
    },
    omega arith,
    own_is (answering.refresh_reply plain given itself (reuse ∷ refreshed) 1000 (words 33) (Ok (grant second))) (own.Refused InvalidGrant)
        (answered_by (reuse ∷ refreshed) 33 second (word 26) (new_token 3 (word 26)) after_refresh [] spells_second tokens_after family_ended refl),
  )

  refusal_begins_none : (b : Option FamilyRow) (w : Word) → Through (op_reply.TokenRefused InvalidGrant) ≡ with_first b (Some (op_reply.TokenRefused InvalidGrant)) (op_reply.TokenRefused InvalidGrant) w
  refusal_begins_none None w = refl
  refusal_begins_none (Some f) w = refl

  code_again_is_answered : IsRefreshPast plain given itself Any sample (code_again ∷ refreshed)
  code_again_is_answered = (
    refreshed_is_answered,
    record { moment = omega arith; four = refl; words = (is_drawn 29 refl refl, (is_drawn 30 refl refl, (is_drawn 31 refl refl, (is_drawn 32 refl refl, tt)))); ask = tt },
    omega arith,
    (op_reply.TokenRefused InvalidGrant, refusal_begins_none _ (word 30)),
  )

  -- ---- and no word is drawn again

  weaker : (m n k : ℕ) → m ≤ k → k ≤ n → m ≤ n
  weaker m n k l h = omega (arith, l, h)

  before_is_below : (n : ℕ) → 17 ≤ n → AreBelow n before
  before_is_below n high =
      (((tt, λ k low. words_below 5 n (weaker 9 n 17 (omega arith) high) k low), λ k low. words_below 9 n (weaker 13 n 17 (omega arith) high) k low), λ k low. words_below 13 n high k low)

  words_are_new : HasNewWords (late ∷ reuse ∷ refreshed)
  words_are_new = (
    (
      (
        (
          (
            (
              (tt, λ k low drawn. no_word_again 5 [] tt k low drawn),
              λ k low drawn. no_word_again 9 (passed_pair authorize_entry (Through login_page) ∷ []) (tt, λ n less. words_below 5 9 (omega arith) n less) k low drawn,
            ),
            λ k low drawn. no_word_again 13 (passed_pair login_entry (Through consent_page) ∷ passed_pair authorize_entry (Through login_page) ∷ [])
                ((tt, λ n less. words_below 5 13 (omega arith) n less), λ n less. words_below 9 13 (omega arith) n less) k low drawn,
          ),
          λ k low drawn. no_word_again 21 before (before_is_below 21 (omega arith)) k low drawn,
        ),
        λ k low drawn. no_word_again 25 began (before_is_below 25 (omega arith), λ n less. words_below 21 25 (omega arith) n less) k low drawn,
      ),
      λ k low drawn. no_word_again 29 refreshed ((before_is_below 29 (omega arith), λ n less. words_below 21 29 (omega arith) n less), λ n less. words_below 25 29 (omega arith) n less) k low drawn,
    ),
    λ k low drawn. no_word_again 33 (reuse ∷ refreshed)
        (((before_is_below 33 (omega arith), λ n less. words_below 21 33 (omega arith) n less), λ n less. words_below 25 33 (omega arith) n less), λ n less. words_below 29 33 (omega arith) n less) k low drawn,
  )

-- there are such texts
spelled : (n : ℕ) → IsWord (word n) → word_of_text (word_text (word n)) ≡ Some (word n)
spelled n is = word_of_text-word_text (word n) is
