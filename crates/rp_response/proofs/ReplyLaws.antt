-- Locations, statuses and bodies of replies.
use Rattle.std.proofs.Common.{◌≡◌, ◌↔◌, ℕ, ◌==◌, Bool, true, false, [], ◌∷◌, ◌++◌, codes, Some, None, is_some, if◌then◌else◌, refl, sym, ap, ◌∙◌, subst, arith, true≢false}
use Rattle.std.specs.Str.Iter.{HasSubslice}
use Rattle.std.proofs.lemmas.Bool.Decides.{nat_tests}
use Rattle.sso_base.specs.Words.{Word, Text}
use Rattle.sso_base.specs.declared.http.Kind.{Kind}
use Rattle.sso_base.specs.declared.http.Kind.TheVariants.{Empty, Plain, Html}
use Rattle.sso_base.specs.declared.message.Message.{Message}
use Rattle.client_registry.specs.Configuration.{Configuration}
use Rattle.rp_exchange.specs.declared.no.RpNo.{RpNo}
use Rattle.rp_exchange.specs.declared.no.RpNo.TheVariants as no
use Rattle.rp_exchange.specs.declared.reply.RpReply.{RpReply}
use Rattle.rp_exchange.specs.declared.reply.RpReply.TheVariants as reply
use Rattle.oidc_words.specs.Paths.{leave_path}
use Rattle.html_pages.specs.Escaping.{escaped}
use Rattle.html_pages.specs.Documents.{closing, body_shown}
use Rattle.html_pages.specs.Forms.{form, alert, small_line}
use Rattle.html_pages.specs.Posting.{control_of, posted, form_posted}
use Rattle.html_pages.proofs.EscapedTexts.{inert}
use Rattle.html_pages.proofs.PostedTags.{five, posted_over, form_read, document_posts_its_content}
use Rattle.html_pages.proofs.Slices.{in_second, in_document}
use Rattle.html_pages.proofs.ShownReplies.{line_if_plain, never_empty}
use Rattle.rp_response.specs.FullPages.{begin_link, onward_link, leave_button, user_content, full_user_page, refusal_advice, refused_content, full_refused_page, is_of_logout, user_page, nobody_page, left_page, refused_page}
use Rattle.rp_response.specs.Page.{fragment_page}
use Rattle.rp_response.specs.Refusals.{refusal_line}
use Rattle.rp_response.specs.Lines.{line_of}
use Rattle.rp_response.specs.Telling.{http_of, party_title, refused_status}
use Rattle.rp_response.specs.Told.{sends_on, is_full}

-- ---- locations

pub ask_sent_to : (c : Configuration) (n : ℕ) (to : Text) (browser : Word) → (http_of c n (reply.Ask to browser)).location ≡ Some to
unfolding http_of
ask_sent_to c n to browser = refl

pub entered_sent_to : (c : Configuration) (n : ℕ) (session : Word) (sub : Text) → (http_of c n (reply.Entered session sub)).location ≡ Some (codes "/")
unfolding http_of
entered_sent_to c n session sub = refl

pub location_of_logins : (c : Configuration) (n : ℕ) (r : RpReply) → is_some (http_of c n r).location ≡ sends_on r
unfolding http_of
location_of_logins c n (reply.Ask to browser) = refl
location_of_logins c n other = refl

-- ---- statuses

found : (n k : ℕ) → (n == k) ≡ true → n ≡ k
found n k h = grind (arith, nat_tests)

-- a number is k if and only if the test says so
same_number : (k : ℕ) → (k == k) ≡ true → (n : ℕ) (b : Bool) → (n == k) ≡ b → (n ≡ k) ↔ (b ≡ true)
same_number k itself n b tested = (λ e. sym tested ∙ ap (λ m. m == k) e ∙ itself, λ t. found n k (tested ∙ t))

see_other : (c : Configuration) (n : ℕ) (r : RpReply) → ((http_of c n r).status == 303) ≡ sends_on r
unfolding http_of
see_other c n (reply.Refused (no.Full table)) = refl
see_other c n (reply.Refused other) = refl
see_other c n other = refl

pub status_of_logins : (c : Configuration) (n : ℕ) (r : RpReply) → ((http_of c n r).status ≡ 303) ↔ (sends_on r ≡ true)
status_of_logins c n r = same_number 303 refl (http_of c n r).status (sends_on r) (see_other c n r)

-- ---- refusals

pub refusal_is_its_line : (c : Configuration) (n : ℕ) (why : RpNo) → c.full_pages ≡ false → (http_of c n (reply.Refused why)).body ≡ line_of (reply.Refused why) ++ 10 ∷ []
unfolding http_of line_of
refusal_is_its_line c n why plain =
    let B : Bool → Text = λ b. body_shown (refused_page b (party_title c n) why) (refusal_line why) in
    ap B plain

logout_by : (is_full : Bool) (t : Text) (why : RpNo) → is_of_logout why ≡ true → body_shown (refused_page is_full t why) (refusal_line why) ≡ refusal_line why ++ 10 ∷ []
logout_by false t why e = refl
logout_by true t why e =
    let B : Bool → Text = λ b. body_shown (if b then None else Some (full_refused_page t why)) (refusal_line why) in
    ap B e

pub logout_refusal_is_its_line : (c : Configuration) (n : ℕ) (why : RpNo) → is_of_logout why ≡ true → (http_of c n (reply.Refused why)).body ≡ line_of (reply.Refused why) ++ 10 ∷ []
unfolding http_of line_of
logout_refusal_is_its_line c n why e = logout_by c.full_pages (party_title c n) why e

-- the line in the full page of an error
line_there : (t : Text) (why : RpNo) → HasSubslice (full_refused_page t why) (escaped (refusal_line why))
unfolding refused_content
line_there t why =
    let line : Text = escaped (refusal_line why) in
    let before : Text = alert (refusal_advice why) ++ onward_link why ++ begin_link (codes "Begin again") in
    in_document (codes "Signing in failed") t (refused_content why) line
    (in_second before (small_line (refusal_line why)) line (codes "<p><small>", codes "</small></p>\n", refl))

line_by : (is_full of_logout : Bool) (t : Text) (why : RpNo) → is_full ≡ true → of_logout ≡ false → is_of_logout why ≡ of_logout
    → HasSubslice (body_shown (refused_page is_full t why) (refusal_line why)) (escaped (refusal_line why))
line_by true false t why e f g =
    let B : Bool → Text = λ b. body_shown (if b then None else Some (full_refused_page t why)) (refusal_line why) in
    subst (λ text. HasSubslice text (escaped (refusal_line why))) (sym (ap B g)) (line_there t why)
line_by true true t why e f g = absurd (true≢false f)
line_by false of_logout t why e f g = absurd (true≢false (sym e))

pub full_refusal_has_its_line : (c : Configuration) (n : ℕ) (why : RpNo) → c.full_pages ≡ true → is_of_logout why ≡ false → HasSubslice (http_of c n (reply.Refused why)).body (escaped (line_of (reply.Refused why)))
unfolding http_of line_of
full_refusal_has_its_line c n why e f = line_by c.full_pages (is_of_logout why) (party_title c n) why e f refl

without_room : (why : RpNo) → (refused_status why == 503) ≡ is_full why
without_room (no.Full table) = refl
without_room other = refl

pub status_of_full : (c : Configuration) (n : ℕ) (why : RpNo) → ((http_of c n (reply.Refused why)).status ≡ 503) ↔ (is_full why ≡ true)
unfolding http_of
status_of_full c n why = same_number 503 refl (refused_status why) (is_full why) (without_room why)

other_status : (why : RpNo) → ¬ (is_full why ≡ true) → refused_status why ≡ 400
other_status (no.Full table) h = absurd (h refl)
other_status other h = refl

pub status_of_others : (c : Configuration) (n : ℕ) (why : RpNo) → ¬ (is_full why ≡ true) → (http_of c n (reply.Refused why)).status ≡ 400
unfolding http_of
status_of_others c n why h = other_status why h

-- ---- bodies

abbrev is_plain : Kind → Bool
is_plain Plain = true
is_plain kind = false

abbrev is_empty : Kind → Bool
is_empty Empty = true
is_empty kind = false

pub plain_is_a_line : (c : Configuration) (n : ℕ) (r : RpReply) → (http_of c n r).kind ≡ Plain → (line : Text) × ((http_of c n r).body ≡ line ++ 10 ∷ [])
unfolding http_of
plain_is_a_line c n (reply.Exchange pending message) e = (codes "pending", refl)
plain_is_a_line c n (reply.Fetch pending message) e = (codes "pending", refl)
plain_is_a_line c n (reply.User sub) e = (codes "user " ++ sub, line_if_plain (user_page c.full_pages (party_title c n) sub) (codes "user " ++ sub) e)
plain_is_a_line c n reply.Nobody e = (codes "nobody", line_if_plain (nobody_page c.full_pages (party_title c n)) (codes "nobody") e)
plain_is_a_line c n (reply.Left ended) e = (codes "left", line_if_plain (left_page c.full_pages (party_title c n)) (codes "left") e)
plain_is_a_line c n (reply.Refused why) e = (refusal_line why, line_if_plain (refused_page c.full_pages (party_title c n) why) (refusal_line why) e)
plain_is_a_line c n reply.NotHere e = (codes "not here", refl)
plain_is_a_line c n other e = absurd (true≢false (sym (ap is_plain e)))

pub empty_has_no_body : (c : Configuration) (n : ℕ) (r : RpReply) → (http_of c n r).kind ≡ Empty → (http_of c n r).body ≡ []
unfolding http_of
empty_has_no_body c n (reply.Ask to browser) e = refl
empty_has_no_body c n (reply.Entered session sub) e = refl
empty_has_no_body c n (reply.Ended count) e = refl
empty_has_no_body c n (reply.User sub) e = absurd (never_empty (user_page c.full_pages (party_title c n) sub) e)
empty_has_no_body c n reply.Nobody e = absurd (never_empty (nobody_page c.full_pages (party_title c n)) e)
empty_has_no_body c n (reply.Left ended) e = absurd (never_empty (left_page c.full_pages (party_title c n)) e)
empty_has_no_body c n (reply.Refused why) e = absurd (never_empty (refused_page c.full_pages (party_title c n) why) e)
empty_has_no_body c n other e = absurd (true≢false (sym (ap is_empty e)))

-- ---- messages

pub exchanges_are_alike : (c : Configuration) (n : ℕ) (v w : Word) (m k : Message) → http_of c n (reply.Exchange v m) ≡ http_of c n (reply.Exchange w k)
unfolding http_of
exchanges_are_alike c n v w m k = refl

pub fetches_are_alike : (c : Configuration) (n : ℕ) (v w : Word) (m k : Message) → http_of c n (reply.Fetch v m) ≡ http_of c n (reply.Fetch w k)
unfolding http_of
fetches_are_alike c n v w m k = refl

-- ---- the front page

user_posts : (t sub : Text) → posted (full_user_page t sub) ≡ form_posted leave_path ∷ control_of (codes "button") [] ∷ []
unfolding leave_button
user_posts t sub =
    let after : Text = leave_button ++ closing in
    document_posts_its_content (codes "Welcome") t (user_content sub)
    ∙ ap posted (five (codes "<p>You are signed in as <b>") (escaped sub) (codes "</b>.</p>\n") (form leave_path) leave_button closing)
    ∙ posted_over (escaped sub) (codes "</b>.</p>\n" ++ (form leave_path ++ after)) (inert sub).less
    ∙ form_read leave_path after (record { quote = refl; less = refl; greater = refl })

user_by : (is_full : Bool) (t sub : Text) → is_full ≡ true → posted (body_shown (user_page is_full t sub) (codes "user " ++ sub)) ≡ form_posted leave_path ∷ control_of (codes "button") [] ∷ []
user_by true t sub e = user_posts t sub
user_by false t sub e = absurd (true≢false (sym e))

pub front_page_leaves : (c : Configuration) (n : ℕ) (sub : Text) → c.full_pages ≡ true → posted (http_of c n (reply.User sub)).body ≡ form_posted leave_path ∷ control_of (codes "button") [] ∷ []
unfolding http_of
front_page_leaves c n sub e = user_by c.full_pages (party_title c n) sub e

-- ---- the page

pub pages_are_alike : (c d : Configuration) (n m : ℕ) → http_of c n reply.Fragment ≡ http_of d m reply.Fragment
unfolding http_of
pages_are_alike c d n m = refl

pub page_has_a_form : (c : Configuration) (n : ℕ) → HasSubslice (http_of c n reply.Fragment).body (codes "<form method=\"post\"></form>")
unfolding http_of fragment_page
page_has_a_form c n = (
  codes "<!doctype html><title>Login</title>",
  codes "<script>var f=document.forms[0];new URLSearchParams(location.hash.slice(1)).forEach(function(v,k){var i=document.createElement(\"input\");i.type=\"hidden\";i.name=k;i.value=v;f.appendChild(i)});f.submit()</script>",
  refl,
)

pub page_is_html : (c : Configuration) (n : ℕ) → (http_of c n reply.Fragment).kind ≡ Html
unfolding http_of
page_is_html c n = refl
