-- Locations, statuses, challenges and bodies of replies.
use Rattle.std.proofs.Common.{◌≡◌, ◌↔◌, ℕ, ◌==◌, Bool, true, false, [], ◌∷◌, ◌++◌, codes, Option, Some, is_some, Ok, refl, sym, ap, ◌∙◌, arith, true≢false}
use Rattle.std.specs.List.{list_any}
use Rattle.std.specs.Str.{IsUtf8}
use Rattle.std.proofs.lemmas.Bool.Decides.{nat_tests}
use Rattle.sso_base.specs.Words.{Word, Text, word_text}
use Rattle.sso_base.specs.declared.http.Kind.{Kind}
use Rattle.sso_base.specs.declared.http.Kind.TheVariants.{Empty, Plain, Json}
use Rattle.client_registry.specs.Configuration.{Configuration}
use Rattle.oidc_words.specs.declared.errors.Refusal.{Refusal}
use Rattle.auth_request.specs.declared.wish.PageNo.{PageNo}
use Rattle.auth_request.specs.declared.wish.PageNo.TheVariants as page
use Rattle.auth_answer.specs.declared.answer.Answer.{Answer}
use Rattle.auth_answer.specs.Printing.{answer_location, refusal_location}
use Rattle.token_endpoint.specs.declared.error.TokenError.TheVariants.{InvalidClient}
use Rattle.token_endpoint.specs.Answer.{tokens_read}
use Rattle.token_endpoint.proofs.Responses.{words_read}
use Rattle.op_exchange.specs.declared.reply.OpReply.{OpReply}
use Rattle.op_exchange.specs.declared.reply.OpReply.TheVariants as reply
use Rattle.op_exchange.specs.Replied.{ends_turn}
use Rattle.html_pages.proofs.ShownReplies.{line_if_plain, never_empty}
use Rattle.op_response.specs.Lines.{page_word}
use Rattle.op_response.specs.FullPages.{error_line, error_page, signed_out_page, table_page, missing_page}
use Rattle.op_response.specs.Telling.{http_of}
use Rattle.op_response.specs.Told.{is_token_response}

-- ---- locations

pub answer_sent_to : (c : Configuration) (a : Answer) (given : Option Word) → (http_of c (reply.Answered a given)).location ≡ Some (answer_location a)
unfolding http_of
answer_sent_to c a given = refl

pub refusal_sent_to : (c : Configuration) (r : Refusal) (given : Option Word) → (http_of c (reply.Refused r given)).location ≡ Some (refusal_location r)
unfolding http_of
refusal_sent_to c r given = refl

pub location_of_responses : (c : Configuration) (r : OpReply) → is_some (http_of c r).location ≡ ends_turn r
unfolding http_of
location_of_responses c (reply.TokenRefused InvalidClient) = refl
location_of_responses c (reply.TokenRefused other) = refl
location_of_responses c other = refl

-- ---- statuses

found : (n k : ℕ) → (n == k) ≡ true → n ≡ k
found n k h = grind (arith, nat_tests)

-- a number is k if and only if the test says so
same_number : (k : ℕ) → (k == k) ≡ true → (n : ℕ) (b : Bool) → (n == k) ≡ b → (n ≡ k) ↔ (b ≡ true)
same_number k itself n b tested = (λ e. sym tested ∙ ap (λ m. m == k) e ∙ itself, λ t. found n k (tested ∙ t))

see_other : (c : Configuration) (r : OpReply) → ((http_of c r).status == 303) ≡ ends_turn r
unfolding http_of
see_other c (reply.TokenRefused InvalidClient) = refl
see_other c (reply.TokenRefused other) = refl
see_other c other = refl

pub status_of_responses : (c : Configuration) (r : OpReply) → ((http_of c r).status ≡ 303) ↔ (ends_turn r ≡ true)
status_of_responses c r = same_number 303 refl (http_of c r).status (ends_turn r) (see_other c r)

challenged : (c : Configuration) (r : OpReply) → ((http_of c r).status == 401) ≡ is_some (http_of c r).challenge
unfolding http_of
challenged c (reply.TokenRefused InvalidClient) = refl
challenged c (reply.TokenRefused other) = refl
challenged c other = refl

pub status_of_challenges : (c : Configuration) (r : OpReply) → ((http_of c r).status ≡ 401) ↔ (is_some (http_of c r).challenge ≡ true)
status_of_challenges c r = same_number 401 refl (http_of c r).status (is_some (http_of c r).challenge) (challenged c r)

-- ---- token responses

pub pragma_of_token_responses : (c : Configuration) (r : OpReply) → (http_of c r).pragma ≡ is_token_response r
unfolding http_of
pragma_of_token_responses c (reply.TokenRefused InvalidClient) = refl
pragma_of_token_responses c (reply.TokenRefused other) = refl
pragma_of_token_responses c other = refl

pub token_responses_are_json : (c : Configuration) (r : OpReply) → is_token_response r ≡ true → (http_of c r).kind ≡ Json
unfolding http_of
token_responses_are_json c (reply.Tokens access id) e = refl
token_responses_are_json c (reply.TokenRefused InvalidClient) e = refl
token_responses_are_json c (reply.TokenRefused other) e = refl
token_responses_are_json c other e = absurd (true≢false (sym e))

pub tokens_are_read : (c : Configuration) (w : Word) (id : Text) → IsUtf8 id → tokens_read (record { status = (http_of c (reply.Tokens w id)).status; body = (http_of c (reply.Tokens w id)).body }) ≡ Ok (record { access = word_text w; id = id })
unfolding http_of
tokens_are_read c w id u = words_read w id u

-- ---- bodies

abbrev is_plain : Kind → Bool
is_plain Plain = true
is_plain kind = false

abbrev is_empty : Kind → Bool
is_empty Empty = true
is_empty kind = false

error_is_a_line : (why : PageNo) → list_any (λ b. b == 10) (codes "error " ++ page_word why) ≡ false
error_is_a_line page.Client = refl
error_is_a_line page.Redirect = refl
error_is_a_line page.Twice = refl
error_is_a_line page.Turn = refl
error_is_a_line page.Browser = refl

pub plain_is_a_line : (c : Configuration) (r : OpReply) → (http_of c r).kind ≡ Plain → (line : Text) × ((http_of c r).body ≡ line ++ 10 ∷ []) × (list_any (λ b. b == 10) line ≡ false)
unfolding http_of
plain_is_a_line c (reply.ErrorPage why) e = (error_line why, line_if_plain (error_page c.full_pages c.title why) (error_line why) e, error_is_a_line why)
plain_is_a_line c (reply.SignedOut messages) e = (codes "signed out", line_if_plain (signed_out_page c.full_pages c.title) (codes "signed out") e, refl)
plain_is_a_line c reply.NotHere e = (codes "not here", line_if_plain (missing_page c.full_pages c.title) (codes "not here") e, refl)
plain_is_a_line c reply.Full e = (codes "full", line_if_plain (table_page c.full_pages c.title) (codes "full") e, refl)
plain_is_a_line c (reply.TokenRefused InvalidClient) e = absurd (true≢false (sym (ap is_plain e)))
plain_is_a_line c (reply.TokenRefused other) e = absurd (true≢false (sym (ap is_plain e)))
plain_is_a_line c other e = absurd (true≢false (sym (ap is_plain e)))

pub empty_has_no_body : (c : Configuration) (r : OpReply) → (http_of c r).kind ≡ Empty → (http_of c r).body ≡ []
unfolding http_of
empty_has_no_body c (reply.Answered answer given) e = refl
empty_has_no_body c (reply.Refused refusal given) e = refl
empty_has_no_body c (reply.InfoRefused given) e = refl
empty_has_no_body c (reply.ErrorPage why) e = absurd (never_empty (error_page c.full_pages c.title why) e)
empty_has_no_body c (reply.SignedOut messages) e = absurd (never_empty (signed_out_page c.full_pages c.title) e)
empty_has_no_body c reply.NotHere e = absurd (never_empty (missing_page c.full_pages c.title) e)
empty_has_no_body c reply.Full e = absurd (never_empty (table_page c.full_pages c.title) e)
empty_has_no_body c (reply.TokenRefused InvalidClient) e = absurd (true≢false (sym (ap is_empty e)))
empty_has_no_body c (reply.TokenRefused other) e = absurd (true≢false (sym (ap is_empty e)))
empty_has_no_body c other e = absurd (true≢false (sym (ap is_empty e)))
