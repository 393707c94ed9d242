-- The definitions computed on responses that are written, and on forms that are read and refused.
use Rattle.std.proofs.Common.{◌≡◌, codes, replicate, [], true, false, Some, None, Result, Ok, Err, arith, ℕ, refl, sym, ◌∙◌}
use Rattle.sso_base.specs.Words.{Word, Text, IsWord, word_text}
use Rattle.sso_base.proofs.Spelling.{IsBytes-from_all_bytes}
use Rattle.std.specs.List.{list_any}
use Rattle.registered_url.specs.Query.{form_names}
use Rattle.sso_base.specs.Texts.{has_text}
use Rattle.configuration_rows.specs.Rows.{answer_names}
use Rattle.request_params.specs.Reading.{RepeatsFirst}
use Rattle.oidc_words.specs.declared.errors.AuthError.TheVariants.{AccessDenied, Other}
use Rattle.oidc_words.specs.declared.errors.Refusal.{Refusal}
use Rattle.auth_answer.specs.declared.answer.Answer.{Answer}
use Rattle.auth_answer.specs.declared.heard.Heard.{Heard}
use Rattle.auth_answer.specs.declared.no.AnswerNo.{AnswerNo}
use Rattle.auth_answer.specs.declared.no.AnswerNo.TheVariants.{Twice}
use Rattle.auth_answer.specs.Printing.{answer_form, answer_location, refusal_location, refusal_form}
use Rattle.auth_answer.specs.Reading.{heard_pairs, answer_read, HasAnswer, RefusesAnswer, IsHeard}
use Rattle.auth_answer.specs.Sent.{answer_heard, refusal_heard, StatesWord}
use Rattle.auth_answer.proofs.OnLiterals.{auth_answer_on_literals}
use Rattle.auth_answer.proofs.HeardParts.{read-answer, answer-read, answer_refused, refused_answer}
use Rattle.auth_answer.proofs.Written.{answer_read_back, refusal_read_back}
use Rattle.auth_answer.proofs.OwnQueries.{own_query_ignored}

-- ---- locations

abbrev ones : Word
ones = replicate 32 1

abbrev twos : Text
twos = codes "AgICAgICAgICAgICAgICAgICAgICAgICAgICAgICAgI"

abbrev a_code : Answer
a_code = record { redirect = codes "https://a.b/cb"; fragment = false; code = Some ones; access = None; id = None; state = Some twos }

abbrev a_token : Answer
a_token = record { redirect = codes "https://a.b/cb?z=1"; fragment = true; code = None; access = Some ones; id = Some (codes "x.y.z"); state = Some (codes "a b") }

location-of_a_code : answer_location a_code ≡ codes "https://a.b/cb?code=AQEBAQEBAQEBAQEBAQEBAQEBAQEBAQEBAQEBAQEBAQE&state=AgICAgICAgICAgICAgICAgICAgICAgICAgICAgICAgI"
unfolding auth_answer_on_literals
location-of_a_code = refl

location-of_a_token : answer_location a_token
    ≡ codes "https://a.b/cb?z=1#access_token=AQEBAQEBAQEBAQEBAQEBAQEBAQEBAQEBAQEBAQEBAQE&token_type=Bearer&expires_in=3600&id_token=x.y.z&state=a+b"
unfolding auth_answer_on_literals
location-of_a_token = refl

location-behind_a_query : answer_location (record a_token { fragment = false; access = None }) ≡ codes "https://a.b/cb?z=1&id_token=x.y.z&state=a+b"
unfolding auth_answer_on_literals
location-behind_a_query = refl

abbrev a_refusal : Refusal
a_refusal = record { redirect = codes "https://a.b/cb"; fragment = true; state = Some twos; code = AccessDenied }

location-of_a_refusal : refusal_location a_refusal ≡ codes "https://a.b/cb#error=access_denied&state=AgICAgICAgICAgICAgICAgICAgICAgICAgICAgICAgI"
unfolding auth_answer_on_literals
location-of_a_refusal = refl

location-without_a_state : refusal_location (record a_refusal { fragment = false; state = None }) ≡ codes "https://a.b/cb?error=access_denied"
unfolding auth_answer_on_literals
location-without_a_state = refl

-- ---- forms

abbrev nothing : Heard
nothing = record { state = None; error = None; code = None; access = None; id = None }

reads-a_code : answer_read (codes "iss=i&code=a+b&state=x&iss=j") ≡ Ok (record nothing { code = Some (codes "a b") })
unfolding auth_answer_on_literals
reads-a_code = refl

reads-a_state : answer_read (codes "state=AgICAgICAgICAgICAgICAgICAgICAgICAgICAgICAgI") ≡ Ok (record nothing { state = Some (replicate 32 2) })
unfolding auth_answer_on_literals
reads-a_state = refl

reads-empty_values : answer_read (codes "state=&error=&code=") ≡ Ok (record nothing { error = Some Other; code = Some [] })
unfolding auth_answer_on_literals
reads-empty_values = refl

reads-an_error : answer_read (codes "error=access_denied&error_description=no") ≡ Ok (record nothing { error = Some AccessDenied })
unfolding auth_answer_on_literals
reads-an_error = refl

refuses-a_name_twice : answer_read (codes "state=&code=1&state=") ≡ Err (Twice (codes "state"))
unfolding auth_answer_on_literals
refuses-a_name_twice = refl

refuses-the_first_that_stands_again : answer_read (codes "id_token=1&code=2&code=3&id_token=4") ≡ Err (Twice (codes "code"))
unfolding auth_answer_on_literals
refuses-the_first_that_stands_again = refl

-- ---- literal words

has-a_code : HasAnswer (codes "iss=i&code=a+b&state=x&iss=j") (record nothing { code = Some (codes "a b") })
has-a_code = read-answer (codes "iss=i&code=a+b&state=x&iss=j") _ reads-a_code

abbrev outcome : Heard → Result Heard AnswerNo
outcome heard = Ok heard

not_both : (heard : Heard) (e : AnswerNo) → outcome heard ≡ Err e → ⊥
not_both heard e h = cc

has-not_with_a_name_twice : (heard : Heard) → HasAnswer (codes "state=&code=1&state=") heard → ⊥
has-not_with_a_name_twice heard has = not_both heard _ (sym (answer-read (codes "state=&code=1&state=") heard has) ∙ refuses-a_name_twice)

repeats-a_state : RepeatsFirst (heard_pairs (codes "state=&code=1&state=")) (codes "state")
repeats-a_state = answer_refused (codes "state=&code=1&state=") _ refuses-a_name_twice

refuses-not_what_is_read : (e : AnswerNo) → RefusesAnswer (codes "iss=i&code=a+b&state=x&iss=j") e → ⊥
refuses-not_what_is_read e r = not_both _ e (sym reads-a_code ∙ refused_answer (codes "iss=i&code=a+b&state=x&iss=j") e r)

is_heard-nothing : IsHeard nothing
is_heard-nothing = record { state = tt; code = tt; access = tt; id = tt }

is_heard-not_a_short_word : IsHeard (record nothing { state = Some [] }) → ⊥
is_heard-not_a_short_word h = (let long : ◌≡◌ {A = ℕ} 0 32 = h.state.long in omega arith)

-- ---- what is sent is heard

word-twos : IsWord (replicate 32 2)
word-twos = record { long = refl; bytes = IsBytes-from_all_bytes (replicate 32 2) refl }

states-a_word : StatesWord (Some twos) (Some (replicate 32 2))
unfolding auth_answer_on_literals
states-a_word = (refl, word-twos)

states-no_word : StatesWord None None
states-no_word = (refl, tt)

states-not_a_word_for_none : StatesWord None (Some (replicate 32 2)) → ⊥
states-not_a_word_for_none h = (let no : None ≡ Some (word_text (replicate 32 2)) = h.0 in cc)

heard-of_a_code : answer_read (answer_form a_code) ≡ Ok (answer_heard a_code (Some (replicate 32 2)))
heard-of_a_code = answer_read_back a_code (Some (replicate 32 2)) states-a_word tt

heard-of_a_refusal : answer_read (refusal_form a_refusal) ≡ Ok (refusal_heard a_refusal (Some (replicate 32 2)))
heard-of_a_refusal = refusal_read_back a_refusal (Some (replicate 32 2)) states-a_word

-- the query of the redirection URI is ignored, unless it has the name of a part
no_part_is_named : list_any (λ name. has_text name answer_names) (form_names (codes "z=1&y")) ≡ false
unfolding auth_answer_on_literals
no_part_is_named = refl

a_part_is_named : list_any (λ name. has_text name answer_names) (form_names (codes "z=1&c%6Fde")) ≡ true
unfolding auth_answer_on_literals
a_part_is_named = refl

ignores-a_query : answer_read (codes "z=1&y&code=x") ≡ answer_read (codes "code=x")
ignores-a_query = own_query_ignored (codes "z=1&y") (codes "code=x") no_part_is_named
