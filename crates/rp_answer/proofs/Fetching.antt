-- Logins that ask for UserInfo, by computation: after a token response, and at once.
use Rattle.std.proofs.Common.{◌≡◌, ℕ, true, false, [], ◌∷◌, Some, None, Result, Ok, Err, codes, refl}
use Rattle.std.specs.Str.{bytes_eq}
use Rattle.sso_base.specs.Words.{Text, word_text}
use Rattle.sso_base.specs.declared.history.Entry.{Entry}
use Rattle.sso_base.specs.declared.message.Message.{Message}
use Rattle.id_token.specs.declared.claims.IdClaims.{IdClaims}
use Rattle.id_token.specs.declared.no.IdNo.TheVariants as id_no
use Rattle.id_token.specs.HalfHash.{half_hash_of}
use Rattle.userinfo.specs.declared.no.InfoNo.{InfoNo}
use Rattle.userinfo.specs.declared.no.InfoNo.TheVariants as info_no
use Rattle.userinfo.specs.Request.{info_message}
use Rattle.login_request.specs.Request.{login_location}
use Rattle.rp_login.specs.declared.rows.PendingRow.{PendingRow}
use Rattle.rp_login.specs.declared.rows.SessionRow.{SessionRow}
use Rattle.rp_login.specs.declared.rows.Stage.TheVariants as stage
use Rattle.rp_login.specs.declared.table.RpTable.TheVariants as table
use Rattle.rp_exchange.specs.declared.ask.RpAsk.{RpAsk}
use Rattle.rp_exchange.specs.declared.ask.RpAsk.TheVariants as ask
use Rattle.rp_exchange.specs.declared.no.RpNo.TheVariants as no
use Rattle.rp_exchange.specs.declared.reply.RpReply.{RpReply}
use Rattle.rp_exchange.specs.declared.reply.RpReply.TheVariants.{Ask, Fetch, Entered, User, Refused, NotHere}
use Rattle.rp_answer.specs.Past.{RpPast}
use Rattle.rp_answer.specs.Logins.{logins}
use Rattle.rp_answer.specs.Pendings.{is_stage, if_stage, pending_started, pending_followed, started_by, followed_by, fetched_by, pendings, any_live_pending, live_pending}
use Rattle.rp_answer.specs.Visits.{visit_of_pending, visit_after, visit_for, visits}
use Rattle.rp_answer.specs.Replies.{info_endpoint, fetch_or_enter, back_accepted, info_came, info}
use Rattle.rp_answer.specs.Room.{beside_answered, table_lacking}
use Rattle.rp_answer.specs.Answering.{rp_answer}
use Rattle.rp_answer.proofs.Sample.{word, entry_at, pair_of, op, code_and_id, id_and_token, shop_client, news_client, mail, press, hybrid_setup, mail_setup, press_setup}
use Rattle.rp_answer.proofs.FirstVisit.{begin_entry, claims}
use Rattle.rp_answer.proofs.FrontLogin.{callback_with, with_hash, waiting}
use Rattle.rp_answer.proofs.EachRefusal.{came, hybrid_response, hybrid_exchange, hybrid_tokens, bobs}
use Rattle.rp_answer.proofs.RowSamples.{login}

-- ---- after a token response

abbrev pub past_mail_begin : RpPast
past_mail_begin = pair_of begin_entry (Ask (login_location shop_client mail op (word 2) (word 3)) (word 1)) ∷ []

abbrev pub past_mail : Text → Text → Text → RpPast
past_mail code t h = pair_of (hybrid_response code t h) (hybrid_exchange code) ∷ past_mail_begin

abbrev pub question : Text → Message
question access = info_message (codes "http://127.0.0.1:8080/userinfo") access

abbrev pub fetch : RpReply
fetch = Fetch (word 17) (question (codes "access"))

pub tokens_fetch : (code t h : Text) → bytes_eq t (word_text (word 3)) ≡ true → rp_answer mail_setup (past_mail code t h) (hybrid_tokens (claims t)) ≡ fetch
unfolding rp_answer
tokens_fetch code t h nonce = rw nonce refl

-- the subjects are compared before UserInfo is asked for
pub other_subject_fetches_nothing : (code t h : Text) → bytes_eq t (word_text (word 3)) ≡ true → rp_answer mail_setup (past_mail code t h) (hybrid_tokens (bobs t)) ≡ Refused no.SubjectDiffers
unfolding rp_answer
other_subject_fetches_nothing code t h nonce = rw nonce refl

-- a provider without UserInfo is not asked
pub nothing_to_fetch : (code t h : Text) → bytes_eq t (word_text (word 3)) ≡ true
    → rp_answer (record mail_setup { provider = record op { userinfo = None } }) (past_mail code t h) (hybrid_tokens (claims t)) ≡ Entered (word 26) (codes "alice")
unfolding rp_answer
nothing_to_fetch code t h nonce = rw nonce refl

-- the tokens come 50 seconds after the code: the question is asked anew, under the same word
abbrev pub late_tokens : Text → Entry RpAsk
late_tokens t = entry_at 1050 25 (ask.Tokens (word 17) (Ok came) (Some (Ok (claims t))))

pub late_tokens_fetch : (code t h : Text) → bytes_eq t (word_text (word 3)) ≡ true → rp_answer mail_setup (past_mail code t h) (late_tokens t) ≡ fetch
unfolding rp_answer
late_tokens_fetch code t h nonce = rw nonce refl

-- an ID Token of a token response may have the hash of the access token
abbrev pub hashed : Text → Text → IdClaims
hashed nonce hash = record (claims nonce) { at_hash = Some hash }

abbrev pub hashed_tokens : Text → Text → Entry RpAsk
hashed_tokens t k = entry_at 1050 25 (ask.Tokens (word 17) (Ok came) (Some (Ok (hashed t k))))

pub hashed_tokens_fetch : (code t h k : Text) → bytes_eq t (word_text (word 3)) ≡ true → bytes_eq k (half_hash_of (codes "access")) ≡ true
    → rp_answer mail_setup (past_mail code t h) (hashed_tokens t k) ≡ fetch
unfolding rp_answer
hashed_tokens_fetch code t h k nonce hash = rw (nonce, hash) refl

-- but no other
pub other_hash_fetches_nothing : (code t h k : Text) → bytes_eq t (word_text (word 3)) ≡ true → bytes_eq k (half_hash_of (codes "access")) ≡ false
    → rp_answer mail_setup (past_mail code t h) (hashed_tokens t k) ≡ Refused (no.Id id_no.TokenHash)
unfolding rp_answer
other_hash_fetches_nothing code t h k nonce other = rw (nonce, other) refl

abbrev pub past_fetch : Text → Text → Text → RpPast
past_fetch code t h = pair_of (late_tokens t) fetch ∷ past_mail code t h

abbrev pub asking : Text → PendingRow
asking code = record waiting { since = 1050; sub = Some (codes "alice"); sid = Some (codes "sid"); code = Some code; stage = stage.Info }

pub one_question : (code t h : Text) → pendings code_and_id (past_fetch code t h) ≡ asking code ∷ []
one_question code t h = refl

abbrev pub info_entry : ℕ → Result Text InfoNo → Entry RpAsk
info_entry at told = entry_at at 29 (ask.Info (word 17) told)

abbrev pub entered_late : RpReply
entered_late = Entered (word 30) (codes "alice")

pub info_enters : (code t h : Text) → rp_answer mail_setup (past_fetch code t h) (info_entry 1169 (Ok (codes "alice"))) ≡ entered_late
unfolding rp_answer
info_enters code t h = refl

-- 120 seconds after the question
pub info_after_two_minutes : (code t h : Text) → rp_answer mail_setup (past_fetch code t h) (info_entry 1170 (Ok (codes "alice"))) ≡ Refused no.StalePending
unfolding rp_answer
info_after_two_minutes code t h = refl

pub info_of_another : (code t h : Text) → rp_answer mail_setup (past_fetch code t h) (info_entry 1060 (Ok (codes "bob"))) ≡ Refused no.SubjectDiffers
unfolding rp_answer
info_of_another code t h = refl

pub info_failed : (code t h : Text) → rp_answer mail_setup (past_fetch code t h) (info_entry 1060 (Err (info_no.Status 401))) ≡ Refused (no.Info (info_no.Status 401))
unfolding rp_answer
info_failed code t h = refl

-- want of memory comes from no answer
pub info_unread : (code t h : Text) → rp_answer mail_setup (past_fetch code t h) (info_entry 1060 (Err info_no.NoMemory)) ≡ NotHere
unfolding rp_answer
info_unread code t h = refl

-- an exchange that waits for the other answer is stale, and waits on
pub info_too_early : (code t h : Text) → rp_answer mail_setup (past_mail code t h) (info_entry 1010 (Ok (codes "alice"))) ≡ Refused no.StalePending
unfolding rp_answer
info_too_early code t h = refl

pub early_info_ends_nothing : (code t h : Text) → bytes_eq t (word_text (word 3)) ≡ true
    → rp_answer mail_setup (pair_of (info_entry 1010 (Ok (codes "alice"))) (Refused no.StalePending) ∷ past_mail code t h) (late_tokens t) ≡ fetch
unfolding rp_answer
early_info_ends_nothing code t h nonce = rw nonce refl

pub tokens_too_late : (code t h : Text) → rp_answer mail_setup (past_fetch code t h) (late_tokens t) ≡ Refused no.StalePending
unfolding rp_answer
tokens_too_late code t h = refl

abbrev pub past_info : Text → Text → Text → RpPast
past_info code t h = pair_of (info_entry 1169 (Ok (codes "alice"))) entered_late ∷ past_fetch code t h

abbrev pub late_visit : SessionRow
late_visit = record { word = word 30; nonce = word 3; sub = codes "alice"; sid = Some (codes "sid"); entered = 1169 }

pub one_late_visit : (code t h : Text) → visits code_and_id (past_info code t h) ≡ late_visit ∷ []
one_late_visit code t h = refl

pub info_ends_question : (code t h : Text) → pendings code_and_id (past_info code t h) ≡ []
info_ends_question code t h = refl

pub info_twice : (code t h : Text) → rp_answer mail_setup (past_info code t h) (info_entry 1169 (Ok (codes "alice"))) ≡ Refused no.StalePending
unfolding rp_answer
info_twice code t h = refl

pub late_visit_finds_user : (code t h : Text) → rp_answer mail_setup (past_info code t h) (entry_at 1200 33 (ask.Visit (Some (word 30)))) ≡ User (codes "alice")
unfolding rp_answer
late_visit_finds_user code t h = refl

-- ---- at once, with the access token of the response

abbrev pub past_press : RpPast
past_press = pair_of begin_entry (Ask (login_location news_client press op (word 2) (word 3)) (word 1)) ∷ []

abbrev pub fetch_front : Text → RpReply
fetch_front access = Fetch (word 17) (question access)

pub front_fetches : (access t h : Text) → bytes_eq t (word_text (word 3)) ≡ true → bytes_eq h (half_hash_of access) ≡ true
    → rp_answer press_setup past_press (callback_with 1000 access (with_hash t h)) ≡ fetch_front access
unfolding rp_answer
front_fetches access t h nonce hash = rw (nonce, hash) refl

abbrev pub past_press_fetch : Text → Text → Text → RpPast
past_press_fetch access t h = pair_of (callback_with 1000 access (with_hash t h)) (fetch_front access) ∷ past_press

abbrev pub asking_front : PendingRow
asking_front = record waiting { sub = Some (codes "alice"); sid = Some (codes "sid"); code = None; stage = stage.Info }

pub one_front_question : (access t h : Text) → pendings id_and_token (past_press_fetch access t h) ≡ asking_front ∷ []
one_front_question access t h = refl

pub fetch_ends_login : (access t h : Text) → logins (past_press_fetch access t h) ≡ []
fetch_ends_login access t h = refl

pub front_info_enters : (access t h : Text) → rp_answer press_setup (past_press_fetch access t h) (info_entry 1119 (Ok (codes "alice"))) ≡ entered_late
unfolding rp_answer
front_info_enters access t h = refl

-- the word of a question that is asked at once may be drawn again
pub fetch_drawn_again : (access t h : Text) → table_lacking id_and_token (past_press_fetch access t h) (callback_with 1000 access (with_hash t h)) (fetch_front access) ≡ Some table.Pendings
fetch_drawn_again access t h = refl

-- one that follows an exchange takes its place
pub following_has_room : (code t h : Text) → table_lacking code_and_id (past_mail code t h) (late_tokens t) fetch ≡ None
following_has_room code t h = refl

-- ---- the parts

tokens_is_no_info : is_stage stage.Tokens stage.Info ≡ false
tokens_is_no_info = refl

info_is_info : is_stage stage.Info stage.Info ≡ true
info_is_info = refl

waits_for_tokens : if_stage stage.Tokens waiting ≡ Some waiting
waits_for_tokens = refl

waits_for_no_info : if_stage stage.Info waiting ≡ None
waits_for_no_info = refl

starts_at_once : (access t h : Text) → pending_started id_and_token 1000 (callback_with 1000 access (with_hash t h)).ask (word 17) stage.Info login ≡ asking_front
starts_at_once access t h = refl

started : (access t h : Text) → started_by id_and_token 1000 past_press (callback_with 1000 access (with_hash t h)).ask (word 17) stage.Info ≡ Some asking_front
started access t h = refl

not_started : started_by id_and_token 1000 past_press begin_entry.ask (word 17) stage.Info ≡ None
not_started = refl

-- the code and the login stay those of the exchange
follows : (code t : Text) → pending_followed code_and_id 1050 (late_tokens t).ask (word 17) (record waiting { code = Some code }) ≡ asking code
follows code t = refl

followed : (code t h : Text) → followed_by code_and_id 1050 (pendings code_and_id (past_mail code t h)) (late_tokens t).ask (word 17) (word 17) ≡ Some (asking code)
followed code t h = refl

-- a question that waits for UserInfo is not followed
not_followed : (code t h : Text) → followed_by code_and_id 1050 (asking code ∷ []) (late_tokens t).ask (word 17) (word 17) ≡ None
not_followed code t h = refl

fetched_after : (code t h : Text) → fetched_by code_and_id 1050 (past_mail code t h) (pendings code_and_id (past_mail code t h)) (word 17) (late_tokens t).ask ≡ Some (asking code)
fetched_after code t h = refl

fetched_by_none : fetched_by code_and_id 1050 [] [] (word 17) begin_entry.ask ≡ None
fetched_by_none = refl

whatever_it_waits_for : (code t h : Text) → any_live_pending code_and_id (past_fetch code t h) 1169 (word 17) ≡ Some (asking code)
whatever_it_waits_for code t h = refl

nothing_of_another_word : (code t h : Text) → any_live_pending code_and_id (past_fetch code t h) 1169 (word 18) ≡ None
nothing_of_another_word code t h = refl

question_lives : (code t h : Text) → live_pending code_and_id (past_fetch code t h) 1169 (word 17) stage.Info ≡ Some (asking code)
question_lives code t h = refl

question_is_no_exchange : (code t h : Text) → live_pending code_and_id (past_fetch code t h) 1169 (word 17) stage.Tokens ≡ None
question_is_no_exchange code t h = refl

visit_is_of_question : (code : Text) → visit_of_pending 1169 (word 30) (asking code) (codes "alice") ≡ late_visit
visit_is_of_question code = refl

visit_follows : (code : Text) → visit_after 1169 (word 30) (asking code) ≡ Some late_visit
visit_follows code = refl

no_visit_without_subject : visit_after 1169 (word 30) waiting ≡ None
no_visit_without_subject = refl

visit_for_info : (code t h : Text) → visit_for code_and_id 1169 (past_fetch code t h) (word 30) (info_entry 1169 (Ok (codes "alice"))).ask ≡ Some late_visit
visit_for_info code t h = refl

visit_for_begin : (code t h : Text) → visit_for code_and_id 1169 (past_fetch code t h) (word 30) begin_entry.ask ≡ None
visit_for_begin code t h = refl

endpoint_of_mail : info_endpoint mail_setup ≡ Some (codes "http://127.0.0.1:8080/userinfo")
endpoint_of_mail = refl

no_endpoint_of_hybrid : info_endpoint hybrid_setup ≡ None
no_endpoint_of_hybrid = refl

fetched : fetch_or_enter begin_entry (info_endpoint mail_setup) (Some (codes "access")) (word 17) (codes "alice") ≡ fetch
fetched = refl

no_access_enters : fetch_or_enter begin_entry (info_endpoint mail_setup) None (word 17) (codes "alice") ≡ Entered (word 2) (codes "alice")
no_access_enters = refl

accepted_fetches : (t : Text) → back_accepted mail_setup begin_entry waiting came (claims t) ≡ fetch
accepted_fetches t = refl

accepted_enters : (t : Text) → back_accepted hybrid_setup begin_entry waiting came (claims t) ≡ Entered (word 2) (codes "alice")
accepted_enters t = refl

alice_came : (code : Text) → info_came begin_entry (asking code) (codes "alice") ≡ Entered (word 2) (codes "alice")
alice_came code = refl

bob_came : (code : Text) → info_came begin_entry (asking code) (codes "bob") ≡ Refused no.SubjectDiffers
bob_came code = refl

-- where no ID Token was judged before, which can't come, it enters and makes no session
none_came_before : info_came begin_entry waiting (codes "alice") ≡ Entered (word 2) (codes "alice")
none_came_before = refl

info_of_none : info begin_entry None (Ok (codes "alice")) ≡ Refused no.StalePending
info_of_none = refl

info_of_asking : (code : Text) → info begin_entry (Some (asking code)) (Ok (codes "alice")) ≡ Entered (word 2) (codes "alice")
info_of_asking code = refl

beside_is_left_out : (t : Text) → beside_answered (late_tokens t).ask (waiting ∷ []) ≡ []
beside_is_left_out t = refl

all_beside_others : beside_answered begin_entry.ask (waiting ∷ []) ≡ waiting ∷ []
all_beside_others = refl
