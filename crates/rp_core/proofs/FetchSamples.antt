-- The definitions of a relying party's core computed on logins that ask for UserInfo: what each accepts, and what it refuses.
use Rattle.std.proofs.Common.{◌≡◌, true, false, [], ◌∷◌, Some, None, Ok, codes, refl}
use Rattle.sso_base.specs.Words.{Text}
use Rattle.rp_login.specs.declared.rows.Stage.TheVariants as stage
use Rattle.rp_core.specs.Making.{started_found, followed_found, fetched_found, visit_judged, visit_in}
use Rattle.rp_core.specs.Keeping.{is_waiting, without_answered}
use Rattle.rp_answer.proofs.Sample.{word, only_code, code_and_id, id_and_token}
use Rattle.rp_answer.proofs.FirstVisit.{past_callback, tokens_entry}
use Rattle.rp_answer.proofs.FrontLogin.{callback_with, with_hash, waiting}
use Rattle.rp_answer.proofs.RowSamples.{visit}
use Rattle.rp_answer.proofs.Fetching.{past_mail, late_tokens, past_fetch, asking, info_entry, late_visit, past_press, asking_front}

-- ---- the exchange that is answered

it_waits_for_tokens : is_waiting (word 17) stage.Tokens (waiting ∷ []) ≡ true
it_waits_for_tokens = refl

it_does_not_wait_for_info : is_waiting (word 17) stage.Info (waiting ∷ []) ≡ false
it_does_not_wait_for_info = refl

another_does_not_wait : is_waiting (word 18) stage.Tokens (waiting ∷ []) ≡ false
another_does_not_wait = refl

the_answered_one_is_gone : without_answered (word 17) stage.Tokens (waiting ∷ []) ≡ []
the_answered_one_is_gone = refl

one_that_waits_for_tokens_stays : without_answered (word 17) stage.Info (waiting ∷ []) ≡ waiting ∷ []
one_that_waits_for_tokens_stays = refl

-- ---- the row of a question

a_response_asks_at_once : (access t h : Text) → started_found id_and_token past_press (callback_with 1599 access (with_hash t h)) (word 17) stage.Info ≡ Some (record asking_front { since = 1599 })
a_response_asks_at_once access t h = refl

not_after_ten_minutes : (access t h : Text) → started_found id_and_token past_press (callback_with 1600 access (with_hash t h)) (word 17) stage.Info ≡ None
not_after_ten_minutes access t h = refl

tokens_are_followed : (code t h : Text) → followed_found code_and_id (past_mail code t h) (late_tokens t) (word 17) (word 17) ≡ Some (asking code)
tokens_are_followed code t h = refl

not_twice : (code t h : Text) → followed_found code_and_id (past_fetch code t h) (late_tokens t) (word 17) (word 17) ≡ None
not_twice code t h = refl

tokens_fetch : (code t h : Text) → fetched_found code_and_id (past_mail code t h) (late_tokens t) (word 17) (late_tokens t).ask ≡ Some (asking code)
tokens_fetch code t h = refl

a_response_fetches : (access t h : Text) → fetched_found id_and_token past_press (callback_with 1000 access (with_hash t h)) (word 17) (callback_with 1000 access (with_hash t h)).ask ≡ Some asking_front
a_response_fetches access t h = refl

info_fetches_nothing : (code t h : Text) → fetched_found code_and_id (past_fetch code t h) (info_entry 1169 (Ok (codes "alice"))) (word 17) (info_entry 1169 (Ok (codes "alice"))).ask ≡ None
info_fetches_nothing code t h = refl

-- ---- the session

an_id_token_lets_in : (t : Text) → visit_judged only_code past_callback (tokens_entry 1119 t) (word 26) (tokens_entry 1119 t).ask ≡ Some (record visit { entered = 1119 })
an_id_token_lets_in t = refl

a_late_one_does_not : (t : Text) → visit_judged only_code past_callback (tokens_entry 1120 t) (word 26) (tokens_entry 1120 t).ask ≡ None
a_late_one_does_not t = refl

info_lets_in : (code t h : Text) → visit_in code_and_id (past_fetch code t h) (info_entry 1169 (Ok (codes "alice"))) (word 30) (info_entry 1169 (Ok (codes "alice"))).ask ≡ Some late_visit
info_lets_in code t h = refl

info_without_question_does_not : (code t h : Text) → visit_in code_and_id (past_mail code t h) (info_entry 1010 (Ok (codes "alice"))) (word 30) (info_entry 1010 (Ok (codes "alice"))).ask ≡ None
info_without_question_does_not code t h = refl
