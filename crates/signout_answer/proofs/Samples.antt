-- The definitions computed: what each accepts, and what it refuses.
use Rattle.std.proofs.Common.{◌≡◌, ◌+◌, true, false, [], ◌∷◌, Option, Some, None, Ok, Err, codes, refl}
use Rattle.op_exchange.specs.declared.ask.OpAsk.{OpAsk}
use Rattle.op_exchange.specs.declared.ask.OpAsk.TheVariants as op_ask
use Rattle.op_exchange.specs.declared.reply.OpReply.{OpReply}
use Rattle.op_exchange.specs.declared.reply.OpReply.TheVariants as op_told
use Rattle.op_exchange.specs.Weight.{ask_weight}
use Rattle.op_exchange.proofs.Sample.{word, words, sample}
use Rattle.end_request.specs.declared.wish.EndWish.{EndWish}
use Rattle.end_request.specs.declared.wish.EndNo.TheVariants as no
use Rattle.signout_answer.specs.declared.asks.EndAsk.TheVariants.{Through, Start, Confirm}
use Rattle.signout_answer.specs.declared.asks.EndReply.{EndReply}
use Rattle.signout_answer.specs.declared.asks.EndReply.TheVariants as reply
use Rattle.signout_answer.specs.declared.asks.EndSetup.{EndSetup}
use Rattle.signout_answer.specs.declared.parts.OwnReply.TheVariants as own
use Rattle.signout_answer.specs.declared.parts.EndParts.TheVariants as parts
use Rattle.signout_answer.specs.declared.parts.Doing.TheVariants as does
use Rattle.signout_answer.specs.declared.questions.QuestionRow.{QuestionRow}
use Rattle.signout_answer.specs.Questions.{held_in, unless_ended}
use Rattle.signout_answer.specs.Around.{Outer, inner_history, around, plain_inside, reply_inside, notices_inside, end_weight}
use Rattle.signout_answer.specs.Laws.{is_refusal}
use Rattle.signout_answer.specs.Answering.{ended_by, is_small, start_doing, is_same_word, is_sign_out, question_in, confirm_doing, IsReply, doing}

abbrev site : EndSetup
site = record { registry = sample; returns = (codes "http://127.0.0.1:8081/bye" ∷ []) ∷ [] }

abbrev lasting_site : EndSetup
lasting_site = record { registry = record sample { lasting = true }; returns = [] ∷ [] }

abbrev bare : EndWish
bare = record { client = None; back = None; state = None }

abbrev row : QuestionRow
row = record { word = word 6; session = Some (word 9); wish = bare; begun = 1000 }

abbrev plain : OpAsk → Option OpAsk
plain asked = Some asked

-- ---- a request to end a session

user_is_asked : start_doing site true (word 5) (Ok bare) ≡ does.Own (own.Sure (word 5))
user_is_asked = refl

no_room_is_full : start_doing site false (word 5) (Ok bare) ≡ does.Own own.Full
no_room_is_full = refl

bad_hint_is_wrong : start_doing site true (word 5) (Err no.Hint) ≡ does.Own (own.Wrong no.Hint)
bad_hint_is_wrong = refl

little_is_kept_by_a_server_that_lasts : is_small lasting_site bare ≡ true
little_is_kept_by_a_server_that_lasts = refl

-- ---- questions

waits_for_ten_minutes : held_in 1599 (Some (word 6)) (row ∷ []) ≡ Some row
waits_for_ten_minutes = refl

not_for_longer : held_in 1600 (Some (word 6)) (row ∷ []) ≡ None
not_for_longer = refl

answered_by_its_browser : question_in (row ∷ []) 1000 (Some (word 6)) (Some (word 9)) true ≡ Some row
answered_by_its_browser = refl

not_by_another_session : question_in (row ∷ []) 1000 (Some (word 6)) (Some (word 10)) true ≡ None
not_by_another_session = refl

not_with_another_word : question_in (row ∷ []) 1000 (Some (word 7)) (Some (word 9)) true ≡ None
not_with_another_word = refl

not_without_a_word : question_in (row ∷ []) 1000 None (Some (word 9)) true ≡ None
not_without_a_word = refl

not_without_a_sign_out : question_in (row ∷ []) 1000 (Some (word 6)) (Some (word 9)) false ≡ None
not_without_a_sign_out = refl

signs_out_of_its_session : is_sign_out (Some (word 9)) (Some (op_ask.SignOut (Some (word 9)))) ≡ true
signs_out_of_its_session = refl

keys_are_no_sign_out : is_sign_out (Some (word 9)) (Some op_ask.Keys) ≡ false
keys_are_no_sign_out = refl

none_is_not_some : is_same_word None (Some (word 9)) ≡ false
none_is_not_some = refl

yes_signs_out : confirm_doing (Some row) true ≡ does.Go None
yes_signs_out = refl

no_keeps_the_session : confirm_doing (Some row) false ≡ does.Own own.Kept
no_keeps_the_session = refl

no_question_is_stale : confirm_doing None true ≡ does.Own own.Stale
no_question_is_stale = refl

-- ---- a past

abbrev answer_of : EndReply OpReply → Outer OpAsk OpReply
answer_of told =
    record {
      entry = record { at = 1000; fresh = words 5; ask = Confirm (Some (word 6)) true (Some (word 9)) (op_ask.SignOut (Some (word 9))) };
      reply = told;
    }

abbrev keys_pair : Outer OpAsk OpReply
keys_pair = record { entry = record { at = 1000; fresh = words 1; ask = Through op_ask.Keys }; reply = reply.Through op_told.Keys }

nothing_to_answer : IsReply {R = OpReply} (doing site plain (keys_pair ∷ []) 1000 (words 5) (answer_of reply.Stale).entry.ask) reply.Stale
nothing_to_answer = refl

not_signed_out : IsReply (doing site plain (keys_pair ∷ []) 1000 (words 5) (answer_of reply.Stale).entry.ask) (reply.Gone None op_told.Keys) → ⊥
not_signed_out h = absurd (cc)

an_answer_ends_its_question : ended_by (answer_of reply.Kept).entry.ask (answer_of reply.Kept).reply ≡ Some (word 6)
an_answer_ends_its_question = refl

a_stale_one_ends_nothing : ended_by (answer_of reply.Stale).entry.ask (answer_of reply.Stale).reply ≡ None
a_stale_one_ends_nothing = refl

ended_is_gone : unless_ended (Some (word 6)) row ≡ None
ended_is_gone = refl

-- the sign-out is passed on, and the other answers are not
one_is_passed_on : inner_history (answer_of (reply.Gone None (op_told.SignedOut [])) ∷ answer_of reply.Stale ∷ [])
    ≡ (record { entry = record { at = 1000; fresh = words 5; ask = op_ask.SignOut (Some (word 9)) }; reply = op_told.SignedOut [] }) ∷ []
one_is_passed_on = refl

kept_apart : around (parts.Gone (Some (word 6)) true (Some (word 9)) None)
    (record { entry = record { at = 1000; fresh = words 5; ask = op_ask.SignOut (Some (word 9)) }; reply = op_told.SignedOut [] })
    ≡ answer_of (reply.Gone None (op_told.SignedOut []))
kept_apart = refl

hidden_from_the_provider : plain_inside plain (answer_of reply.Stale).entry.ask ≡ None
hidden_from_the_provider = refl

no_reply_of_the_provider : reply_inside (λ (r : OpReply). Some r) (reply.Gone None (op_told.SignedOut [])) ≡ None
no_reply_of_the_provider = refl

messages_are_sent : notices_inside (λ (r : OpReply). Some []) (reply.Gone None (op_told.SignedOut [])) ≡ Some []
messages_are_sent = refl

form_is_weighed : end_weight ask_weight (Start (codes "state=x") None) ≡ 1024 + 7
form_is_weighed = refl

-- ---- replies that change nothing

wrong_changes_nothing : is_refusal (own.Wrong no.Hint) ≡ true
wrong_changes_nothing = refl

kept_ends_a_question : is_refusal own.Kept ≡ false
kept_ends_a_question = refl
