-- The form of an answer is read as its parts, and that of a refusal as its code and its state.
use Rattle.std.proofs.Common.{◌≡◌, ◌++◌, List, [], ◌∷◌, Bool, true, false, filter, codes, Option, Some, None, option_map, option_and_then, Result, Ok, refl, sym, ◌∙◌, ap, subst}
use Rattle.std.specs.Prelude.{⊤, IfSome}
use Rattle.std.specs.List.{cons_option}
use Rattle.std.specs.Str.{IsUtf8}
use Rattle.sso_base.specs.Words.{Word, Text, word_text, word_of_text}
use Rattle.sso_base.proofs.WordTexts.{word_of_text-word_text}
use Rattle.request_params.specs.Form.{Pair, form_text}
use Rattle.request_params.specs.Location.{with_query, with_fragment}
use Rattle.request_params.proofs.Forms.{AreTextPairs, form_pairs-form_text}
use Rattle.sso_base.proofs.Utf8Bytes.{IsUtf8-are_ascii}
use Rattle.oidc_words.specs.declared.errors.AuthError.{AuthError}
use Rattle.oidc_words.specs.declared.errors.Refusal.{Refusal}
use Rattle.oidc_words.specs.Lives.{access_life_text}
use Rattle.oidc_words.specs.TokenTypes.{bearer_word}
use Rattle.auth_answer.specs.declared.answer.Answer.{Answer}
use Rattle.auth_answer.specs.declared.heard.Heard.{Heard}
use Rattle.auth_answer.specs.declared.no.AnswerNo.{AnswerNo}
use Rattle.oidc_words.specs.Errors.{error_text, error_of}
use Rattle.auth_answer.specs.Printing.{Param, pair_if, pairs_of, answer_params, refusal_params, answer_form, refusal_form, located, answer_location, refusal_location, answer_mark}
use Rattle.auth_answer.specs.Reading.{names_part, pairs_read, answer_read}
use Rattle.auth_answer.specs.Sent.{answer_heard, refusal_heard, StatesWord}
use Rattle.oidc_words.proofs.ErrorCodes.{error_of-error_text}
use Rattle.oidc_words.proofs.ErrorTexts.{IsUtf8-error_text}
use Rattle.sso_base.proofs.WordUtf8.{IsUtf8-word_text_if}

-- ---- the parameters are texts

abbrev IsTextParam : Param → Type 0
IsTextParam p = IsUtf8 p.0 × IfSome p.1 IsUtf8

abbrev AreTextParams : List Param → Type 0
AreTextParams [] = ⊤
AreTextParams (p ∷ ps) = IsTextParam p × AreTextParams ps

texts_before : (name : Text) (o : Option Text) (pairs : List Pair) → IsTextParam (name, o) → AreTextPairs pairs → AreTextPairs (cons_option (pair_if (name, o)) pairs)
texts_before name None pairs u rest = rest
texts_before name (Some v) pairs u rest = (u, rest)

text_pairs : (ps : List Param) → AreTextParams ps → AreTextPairs (pairs_of ps)
text_pairs [] u = tt
text_pairs (p ∷ ps) u = texts_before p.0 p.1 (pairs_of ps) u.0 (text_pairs ps u.1)

text_if : {A : Type 0} (t : Text) (o : Option A) → IsUtf8 t → IfSome (option_map (λ _. t) o) IsUtf8
text_if t None u = tt
text_if t (Some a) u = u

answer_texts : (a : Answer) → IfSome a.state IsUtf8 → IfSome a.id IsUtf8 → AreTextParams (answer_params a)
answer_texts a state id = (
  (IsUtf8-are_ascii (codes "code") refl, IsUtf8-word_text_if a.code),
  (
    (IsUtf8-are_ascii (codes "access_token") refl, IsUtf8-word_text_if a.access),
    (
      (IsUtf8-are_ascii (codes "token_type") refl, text_if bearer_word (option_map word_text a.access) (IsUtf8-are_ascii bearer_word refl)),
      (
        (IsUtf8-are_ascii (codes "expires_in") refl, text_if access_life_text (option_map word_text a.access) (IsUtf8-are_ascii access_life_text refl)),
        (
          (IsUtf8-are_ascii (codes "id_token") refl, id),
          (
            (IsUtf8-are_ascii (codes "state") refl, state),
            tt,
          ),
        ),
      ),
    ),
  ),
)

refusal_texts : (r : Refusal) → IfSome r.state IsUtf8 → AreTextParams (refusal_params r)
refusal_texts r state = (
  (IsUtf8-are_ascii (codes "error") refl, IsUtf8-error_text r.code),
  ((IsUtf8-are_ascii (codes "state") refl, state), tt),
)

-- ---- what is heard of them

abbrev sent : Option Word → Option Word → Option Text → Option Text → Answer
sent code access id state = record { redirect = []; fragment = false; code = code; access = access; id = id; state = state }

abbrev heard_of : List Param → Result Heard AnswerNo
heard_of ps = pairs_read (filter names_part (pairs_of ps))

abbrev IsAsSent : Option Word → Option Word → Option Text → Option Text → Type 0
IsAsSent code access id state = heard_of (answer_params (sent code access id state)) ≡ Ok (answer_heard (sent code access id state) (option_and_then word_of_text state))

as_sent : (code access : Option Word) (id state : Option Text) → IsAsSent code access id state
as_sent None None None None = refl
as_sent None None None (Some s) = refl
as_sent None None (Some t) None = refl
as_sent None None (Some t) (Some s) = refl
as_sent None (Some a) None None = refl
as_sent None (Some a) None (Some s) = refl
as_sent None (Some a) (Some t) None = refl
as_sent None (Some a) (Some t) (Some s) = refl
as_sent (Some c) None None None = refl
as_sent (Some c) None None (Some s) = refl
as_sent (Some c) None (Some t) None = refl
as_sent (Some c) None (Some t) (Some s) = refl
as_sent (Some c) (Some a) None None = refl
as_sent (Some c) (Some a) None (Some s) = refl
as_sent (Some c) (Some a) (Some t) None = refl
as_sent (Some c) (Some a) (Some t) (Some s) = refl

abbrev refused : AuthError → Option Text → Refusal
refused code state = record { redirect = []; fragment = false; state = state; code = code }

abbrev error_heard : AuthError → Option Word → Result Heard AnswerNo
error_heard code state = Ok (record { state = state; error = Some code; code = None; access = None; id = None })

as_refused : (code : AuthError) (state : Option Text) → heard_of (refusal_params (refused code state)) ≡ error_heard (error_of (error_text code)) (option_and_then word_of_text state)
as_refused code None = refl
as_refused code (Some s) = refl

pub answer_any_state : (a : Answer) → IfSome a.state IsUtf8 → IfSome a.id IsUtf8 → answer_read (answer_form a) ≡ Ok (answer_heard a (option_and_then word_of_text a.state))
unfolding answer_read
answer_any_state a state id =
    ap (λ pairs. pairs_read (filter names_part pairs)) (form_pairs-form_text (pairs_of (answer_params a)) (text_pairs (answer_params a) (answer_texts a state id)))
    ∙ as_sent a.code a.access a.id a.state

pub refusal_any_state : (r : Refusal) → IfSome r.state IsUtf8 → answer_read (refusal_form r) ≡ Ok (refusal_heard r (option_and_then word_of_text r.state))
unfolding answer_read
refusal_any_state r state =
    ap (λ pairs. pairs_read (filter names_part pairs)) (form_pairs-form_text (pairs_of (refusal_params r)) (text_pairs (refusal_params r) (refusal_texts r state)))
    ∙ as_refused r.code r.state
    ∙ ap (λ code. error_heard code (option_and_then word_of_text r.state)) (error_of-error_text r.code)

-- ---- states that are words

word_back : (o : Option Word) → StatesWord (option_map word_text o) o → option_and_then word_of_text (option_map word_text o) ≡ o
word_back None h = refl
word_back (Some w) h = word_of_text-word_text w h.1

stated : (state : Option Text) (word : Option Word) → StatesWord state word → option_and_then word_of_text state ≡ word
stated state word h = ap (option_and_then word_of_text) h.0 ∙ word_back word (refl, h.1)

stated_text : (state : Option Text) (word : Option Word) → StatesWord state word → IfSome state IsUtf8
stated_text state word h = subst (λ o. IfSome o IsUtf8) (sym h.0) (IsUtf8-word_text_if word)

pub answer_read_back : (a : Answer) (state : Option Word) → StatesWord a.state state → IfSome a.id IsUtf8 → answer_read (answer_form a) ≡ Ok (answer_heard a state)
answer_read_back a state h id =
    answer_any_state a (stated_text a.state state h) id ∙ ap (λ word. Ok (answer_heard a word)) (stated a.state state h)

pub refusal_read_back : (r : Refusal) (state : Option Word) → StatesWord r.state state → answer_read (refusal_form r) ≡ Ok (refusal_heard r state)
refusal_read_back r state h =
    refusal_any_state r (stated_text r.state state h) ∙ ap (λ word. Ok (refusal_heard r word)) (stated r.state state h)

-- ---- locations

located_is : (url : Text) (fragment : Bool) (pairs : List Pair) → located url fragment pairs ≡ url ++ answer_mark url fragment ++ form_text pairs
unfolding with_query with_fragment
located_is url true pairs = refl
located_is url false pairs = refl

pub answer_located : (a : Answer) → answer_location a ≡ a.redirect ++ answer_mark a.redirect a.fragment ++ answer_form a
unfolding answer_location
answer_located a = located_is a.redirect a.fragment (pairs_of (answer_params a))

pub refusal_located : (r : Refusal) → refusal_location r ≡ r.redirect ++ answer_mark r.redirect r.fragment ++ refusal_form r
unfolding refusal_location
refusal_located r = located_is r.redirect r.fragment (pairs_of (refusal_params r))
