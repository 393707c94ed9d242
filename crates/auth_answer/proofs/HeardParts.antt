-- What is read is what stands in the form, and what is refused repeats a name.
use Rattle.std.proofs.Common.{◌≡◌, ℕ, List, [], codes, Option, Some, None, option_map, option_and_then, Ok, Err, refl, sym, ◌∙◌, ap, subst}
use Rattle.std.specs.Prelude.{IfSome}
use Rattle.std.specs.Str.{IsUtf8}
use Rattle.form_urlencoded.specs.Form.{raw_pairs}
use Rattle.sso_base.specs.Lists.{Has}
use Rattle.sso_base.specs.Words.{Text, IsWord, word_of_text}
use Rattle.sso_base.proofs.WordTexts.{word_of_text-word_text, word_of_text_some}
use Rattle.request_params.specs.Form.{Pair, form_pairs}
use Rattle.request_params.specs.Reading.{value_of, first_repeated, StandOnce, RepeatsFirst}
use Rattle.request_params.proofs.Values.{has_value, value_of_pair}
use Rattle.request_params.proofs.Repeated.{none_repeated, repeated_none, some_repeated, repeated_first, given_once, given_twice}
use Rattle.request_params.proofs.Lossy.{pair_read, has_filtered}
use Rattle.request_params.proofs.Forms.{IsTextPair}
use Rattle.oidc_words.specs.declared.errors.AuthError.{AuthError}
use Rattle.auth_answer.specs.declared.heard.Heard.{Heard}
use Rattle.auth_answer.specs.declared.no.AnswerNo.{AnswerNo}
use Rattle.auth_answer.specs.declared.no.AnswerNo.TheVariants as no
use Rattle.oidc_words.specs.Errors.{error_of, SaysError}
use Rattle.auth_answer.specs.Reading.{names_part, heard_pairs, heard_in, unless_repeated, answer_read, SaysWord, SaysText, IsPart, HasAnswer, RefusesAnswer, IsHeard}
use Rattle.oidc_words.proofs.ErrorCodes.{error_says, says_error}

-- ---- one part

said_at : {A : Type 0} (f : Text → Option A) (o : Option Text) (a : A) → option_and_then f o ≡ Some a → (t : Text) × (o ≡ Some t) × (f t ≡ Some a)
said_at f None a h = absurd (cc)
said_at f (Some t) a h = (t, refl, h)

both_at : {A : Type 0} (o q : Option A) → ((a : A) → o ≡ Some a → q ≡ Some a) → ((a : A) → q ≡ Some a → o ≡ Some a) → o ≡ q
both_at None None f g = refl
both_at None (Some a) f g = g a refl
both_at (Some a) q f g = sym (f a refl)

-- reading a text gives exactly what it says
record Reads {A : Type 0} (f : Text → Option A) (Says : Text → A → Type 0) : Type 0 where
  says : (t : Text) (a : A) → f t ≡ Some a → Says t a
  said : (t : Text) (a : A) → Says t a → f t ≡ Some a

part_is : {A : Type 0} (f : Text → Option A) (Says : Text → A → Type 0) → Reads f Says → (pairs : List Pair) (name : Text) (part : Option A) → StandOnce pairs
    → part ≡ option_and_then f (value_of name pairs) → IsPart pairs name Says part
part_is f Says reads pairs name part once is =
    record {
      stands = λ a h. let at = said_at f (value_of name pairs) a (sym is ∙ h) in (at.0, has_value pairs name at.0 at.1, reads.says at.0 a at.2);
      all = λ value a has says. is ∙ ap (option_and_then f) (value_of_pair pairs (name, value) once has) ∙ reads.said value a says;
    }

is_part : {A : Type 0} (f : Text → Option A) (Says : Text → A → Type 0) → Reads f Says → (pairs : List Pair) (name : Text) (part : Option A) → StandOnce pairs
    → IsPart pairs name Says part → option_and_then f (value_of name pairs) ≡ part
is_part f Says reads pairs name part once p =
    both_at (option_and_then f (value_of name pairs)) part
    (λ a h. let at = said_at f (value_of name pairs) a h in p.all at.0 a (has_value pairs name at.0 at.1) (reads.says at.0 a at.2))
    (λ a h. let at = p.stands a h in ap (option_and_then f) (value_of_pair pairs (name, at.0) once at.1) ∙ reads.said at.0 a at.2)

-- ---- words, error codes and texts

words : Reads word_of_text SaysWord
words = record { says = λ t w h. word_of_text_some t w h; said = λ t w h. ap word_of_text h.0 ∙ word_of_text-word_text w h.1 }

abbrev some_error : Text → Option AuthError
some_error t = Some (error_of t)

one_error : (c d : AuthError) → Some c ≡ Some d → c ≡ d
one_error c d h = cc

errors : Reads some_error SaysError
errors = record { says = λ t code h. error_says t code (one_error (error_of t) code h); said = λ t code h. ap Some (says_error t code h) }

abbrev some_text : Text → Option Text
some_text t = Some t

one_text : (t u : Text) → Some t ≡ Some u → t ≡ u
one_text t u h = cc

texts : Reads some_text SaysText
texts = record { says = one_text; said = λ t u h. ap Some h }

error_map : (o : Option Text) → option_map error_of o ≡ option_and_then some_error o
error_map None = refl
error_map (Some t) = refl

text_map : (o : Option Text) → o ≡ option_and_then some_text o
text_map None = refl
text_map (Some t) = refl

-- ---- the whole form

pub read-answer : (form : List ℕ) (heard : Heard) → answer_read form ≡ Ok heard → HasAnswer form heard
unfolding answer_read
read-answer form heard h =
    let pairs = heard_pairs form in
    let at = given_once no.Twice (first_repeated pairs) (heard_in pairs) heard h in
    let once : StandOnce pairs = none_repeated [] pairs tt at.0 in
    record {
      once = once;
      state = part_is word_of_text SaysWord words pairs (codes "state") heard.state once (ap (λ (x : Heard). x.state) at.1);
      error = part_is some_error SaysError errors pairs (codes "error") heard.error once (ap (λ (x : Heard). x.error) at.1 ∙ error_map (value_of (codes "error") pairs));
      code = part_is some_text SaysText texts pairs (codes "code") heard.code once (ap (λ (x : Heard). x.code) at.1 ∙ text_map (value_of (codes "code") pairs));
      access = part_is some_text SaysText texts pairs (codes "access_token") heard.access once (ap (λ (x : Heard). x.access) at.1 ∙ text_map (value_of (codes "access_token") pairs));
      id = part_is some_text SaysText texts pairs (codes "id_token") heard.id once (ap (λ (x : Heard). x.id) at.1 ∙ text_map (value_of (codes "id_token") pairs));
    }

is_text_part : (pairs : List Pair) (name : Text) (part : Option Text) → StandOnce pairs → IsPart pairs name SaysText part → value_of name pairs ≡ part
is_text_part pairs name part once p = text_map (value_of name pairs) ∙ is_part some_text SaysText texts pairs name part once p

same_heard : (pairs : List Pair) (heard : Heard) → (heard_in pairs).state ≡ heard.state → (heard_in pairs).error ≡ heard.error → (heard_in pairs).code ≡ heard.code
    → (heard_in pairs).access ≡ heard.access → (heard_in pairs).id ≡ heard.id → heard_in pairs ≡ heard
same_heard pairs heard s e c a d = λ i. record { state = s i; error = e i; code = c i; access = a i; id = d i }

pub answer-read : (form : List ℕ) (heard : Heard) → HasAnswer form heard → answer_read form ≡ Ok heard
unfolding answer_read
answer-read form heard r =
    let pairs = heard_pairs form in
    let none : first_repeated pairs ≡ None = repeated_none [] pairs r.once in
    let same : heard_in pairs ≡ heard = same_heard pairs heard
    (is_part word_of_text SaysWord words pairs (codes "state") heard.state r.once r.state)
    (error_map (value_of (codes "error") pairs) ∙ is_part some_error SaysError errors pairs (codes "error") heard.error r.once r.error)
    (is_text_part pairs (codes "code") heard.code r.once r.code)
    (is_text_part pairs (codes "access_token") heard.access r.once r.access)
    (is_text_part pairs (codes "id_token") heard.id r.once r.id) in
    ap (λ o. unless_repeated o (heard_in pairs)) none ∙ ap Ok same

-- ---- refusals

refused-repeats : (form : List ℕ) (e : AnswerNo) → answer_read form ≡ Err e → (name : Text) × (e ≡ no.Twice name) × RepeatsFirst (heard_pairs form) name
unfolding answer_read
refused-repeats form e h =
    let pairs = heard_pairs form in
    let at = given_twice no.Twice (first_repeated pairs) (heard_in pairs) e h in
    (at.0, at.2, some_repeated [] pairs at.0 tt at.1)

pub repeats-refused : (form : List ℕ) (name : Text) → RepeatsFirst (heard_pairs form) name → answer_read form ≡ Err (no.Twice name)
unfolding answer_read
repeats-refused form name r = ap (λ o. unless_repeated o (heard_in (heard_pairs form))) (repeated_first (heard_pairs form) name r)

pub answer_refused : (form : List ℕ) (e : AnswerNo) → answer_read form ≡ Err e → RefusesAnswer form e
answer_refused form e h =
    let at = refused-repeats form e h in
    subst (RefusesAnswer form) (sym at.1) at.2

pub refused_answer : (form : List ℕ) (e : AnswerNo) → RefusesAnswer form e → answer_read form ≡ Err e
refused_answer form (no.Twice name) r = repeats-refused form name r
refused_answer form no.NoMemory r = absurd r

-- ---- values

heard_texts : (form : List ℕ) (p : Pair) → Has (heard_pairs form) p → IsTextPair p
unfolding form_pairs
heard_texts form p h = pair_read (raw_pairs form) p (has_filtered names_part (form_pairs form) p h)

if_there : {A : Type 0} (P : A → Type 0) (o : Option A) → ((a : A) → o ≡ Some a → P a) → IfSome o P
if_there P None f = tt
if_there P (Some a) f = f a refl

text_there : (form : List ℕ) (name : Text) (part : Option Text) → IsPart (heard_pairs form) name SaysText part → IfSome part IsUtf8
text_there form name part p = if_there IsUtf8 part (λ a h. let at = p.stands a h in subst IsUtf8 at.2 (heard_texts form (name, at.0) at.1).1)

pub heard_values : (form : List ℕ) (heard : Heard) → answer_read form ≡ Ok heard → IsHeard heard
heard_values form heard h =
    let has = read-answer form heard h in
    record {
      state = if_there IsWord heard.state (λ w is. (has.state.stands w is).2.1);
      code = text_there form (codes "code") heard.code has.code;
      access = text_there form (codes "access_token") heard.access has.access;
      id = text_there form (codes "id_token") heard.id has.id;
    }
