-- The definitions computed: what each accepts, and what it refuses.
use Rattle.std.proofs.Common.{◌≡◌, true, false, [], ◌∷◌, Some, None, codes, refl}
use Rattle.sso_base.specs.Words.{word_text, word_of_text}
use Rattle.sso_base.specs.declared.http.Ask.{Ask}
use Rattle.sso_base.specs.declared.http.HttpReply.{HttpReply}
use Rattle.sso_base.specs.declared.http.Kind.TheVariants.{Html}
use Rattle.sso_base.specs.declared.http.Method.TheVariants.{Get}
use Rattle.http_reply.specs.Replies.{plain, sent_to}
use Rattle.client_registry.specs.Configuration.{Configuration}
use Rattle.op_exchange.specs.declared.ask.OpAsk.{OpAsk}
use Rattle.op_exchange.specs.declared.ask.OpAsk.TheVariants.{SignOut, NotHere}
use Rattle.op_exchange.specs.declared.reply.OpReply.{OpReply}
use Rattle.op_exchange.specs.declared.reply.OpReply.TheVariants as op_told
use Rattle.op_exchange.proofs.Sample.{word, sample}
use Rattle.end_request.specs.declared.wish.EndNo.TheVariants as no
use Rattle.signout_answer.specs.declared.asks.EndAsk.TheVariants as ask
use Rattle.signout_answer.specs.declared.asks.EndReply.TheVariants as reply
use Rattle.signout_answer.specs.declared.parts.OwnReply.TheVariants as own
use Rattle.signout_answer.specs.declared.parts.EndParts.TheVariants as parts
use Rattle.signout_answer.specs.declared.parts.Doing.TheVariants as does
use Rattle.signout_answer.specs.declared.questions.QuestionRow.{QuestionRow}
use Rattle.rp_signout.specs.declared.decision.Verdict.TheVariants as decided
use Rattle.rp_signout.specs.declared.routes.Route.TheVariants.{Start, Confirm}
use Rattle.rp_signout.specs.Keeps.{rows_left, room_in, own_ended, parts_ended, parts_back, is_passable, confirmed_doing}
use Rattle.rp_signout.specs.Pages.{question_page, gone_shown, end_http}
use Rattle.rp_signout.specs.Prepared.{get_route, post_route, route_asked, confirm_asked}

-- ---- the path

start_by_get : get_route (codes "/end_session") ≡ Some Start
start_by_get = refl

no_answer_by_get : get_route (codes "/end_session/confirm") ≡ None
no_answer_by_get = refl

answer_by_post : post_route (codes "/end_session/confirm") ≡ Some Confirm
answer_by_post = refl

other_paths_are_passed_on : post_route (codes "/end_sessions") ≡ None
other_paths_are_passed_on = refl

abbrev request : Ask
request =
    record {
      method = Get;
      path = codes "/op/end_session";
      query = codes "state=x";
      body = None;
      first = None;
      second = Some (word 9);
      auth = None;
    }

below_the_issuer : route_asked (codes "/op") request ≡ Some Start
below_the_issuer = refl

not_beside_it : route_asked (codes "/other") request ≡ None
not_beside_it = refl

-- ---- the form of the page

abbrev signs : OpAsk → OpAsk
signs asked = asked

yes_is_read : confirm_asked signs request ((codes "agree", codes "yes") ∷ []) ≡ ask.Confirm (word_of_text []) true (Some (word 9)) (SignOut (Some (word 9)))
yes_is_read = refl

no_is_no_yes : confirm_asked signs request ((codes "agree", codes "no") ∷ []) ≡ ask.Confirm (word_of_text []) false (Some (word 9)) (SignOut (Some (word 9)))
no_is_no_yes = refl

two_answers_are_none : confirm_asked signs request ((codes "agree", codes "yes") ∷ (codes "agree", codes "no") ∷ [])
    ≡ ask.Confirm None false (Some (word 9)) (SignOut (Some (word 9)))
two_answers_are_none = refl

-- ---- replies

abbrev http : Configuration → OpReply → HttpReply
http c told = plain 404 (codes "not here")

inner_replies_stay : end_http http sample (reply.Through op_told.NotHere) ≡ plain 404 (codes "not here")
inner_replies_stay = refl

refused_request : end_http http sample (reply.Wrong no.Hint) ≡ plain 400 (codes "error end")
refused_request = refl

no_such_question : end_http http sample reply.Stale ≡ plain 400 (codes "error turn")
no_such_question = refl

signed_out : end_http http sample (reply.Gone None (op_told.SignedOut [])) ≡ plain 200 (codes "signed out")
signed_out = refl

no_room : end_http http sample reply.Full ≡ plain 503 (codes "full")
no_room = refl

stays : end_http http sample reply.Kept ≡ plain 200 (codes "kept")
stays = refl

a_plain_question : (end_http http sample (reply.Sure (word 6))).body ≡ question_page [] (word_text (word 6))
a_plain_question = refl

abbrev titled : Configuration
titled = record sample { full_pages = true; title = codes "Accounts" }

a_full_question_is_html : (end_http http titled (reply.Sure (word 6))).kind ≡ Html
a_full_question_is_html = refl

refused_requests_have_a_page : (end_http http titled (reply.Wrong no.Hint)).kind ≡ Html
refused_requests_have_a_page = refl

refused_pages_have_their_status : (end_http http titled (reply.Wrong no.Hint)).status ≡ 400
refused_pages_have_their_status = refl

stale_pages_have_their_status : (end_http http titled reply.Stale).status ≡ 400
stale_pages_have_their_status = refl

sent_back : gone_shown sample (Some (codes "http://127.0.0.1:8081/bye")) ≡ sent_to (codes "http://127.0.0.1:8081/bye") []
sent_back = refl

-- ---- the table

abbrev row : QuestionRow
row = record { word = word 6; session = Some (word 9); wish = record { client = None; back = None; state = None }; begun = 1000 }

ended_question_leaves : rows_left (Some (word 6)) (row ∷ []) ≡ []
ended_question_leaves = refl

others_stay : rows_left (Some (word 7)) (row ∷ []) ≡ row ∷ []
others_stay = refl

room_for_another_word : room_in (row ∷ []) 1000 (word 7) ≡ true
room_for_another_word = refl

no_room_for_the_same_word : room_in (row ∷ []) 1000 (word 6) ≡ false
no_room_for_the_same_word = refl

room_when_its_life_is_over : room_in (row ∷ []) 1600 (word 6) ≡ true
room_when_its_life_is_over = refl

no_ends_its_question : own_ended (ask.Confirm (Some (word 6)) false (Some (word 9)) NotHere) own.Kept ≡ Some (word 6)
no_ends_its_question = refl

stale_ends_none : own_ended (ask.Confirm (Some (word 6)) false (Some (word 9)) NotHere) own.Stale ≡ None
stale_ends_none = refl

yes_ends_its_question : parts_ended (parts.Gone (Some (word 6)) true (Some (word 9)) None) ≡ Some (word 6)
yes_ends_its_question = refl

back_is_kept : parts_back (parts.Gone None true None (Some (codes "x"))) ≡ Some (codes "x")
back_is_kept = refl

starts_are_not_passed_on : is_passable {A = OpAsk} (ask.Start [] None) ≡ false
starts_are_not_passed_on = refl

-- ---- decisions about an answer to a question

yes_goes_on : confirmed_doing (decided.Go (Some (codes "http://a.b"))) ≡ does.Go (Some (codes "http://a.b"))
yes_goes_on = refl

no_is_answered : confirmed_doing (decided.Own own.Kept) ≡ does.Own own.Kept
no_is_answered = refl
