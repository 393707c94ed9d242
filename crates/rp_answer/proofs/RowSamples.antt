-- What asks tell, and the rows that stand after a past, on the sample logins.
use Rattle.std.proofs.Common.{◌≡◌, true, false, [], ◌∷◌, Some, None, Ok, Err, codes, refl}
use Rattle.sso_base.specs.Words.{Text}
use Rattle.id_token.specs.declared.no.IdNo.{IdNo}
use Rattle.id_token.specs.declared.no.IdNo.TheVariants as id_no
use Rattle.oidc_words.specs.declared.errors.AuthError.TheVariants.{AccessDenied}
use Rattle.token_endpoint.specs.declared.no.TokensNo.TheVariants as tokens_no
use Rattle.rp_login.specs.declared.rows.LoginRow.{LoginRow}
use Rattle.rp_login.specs.declared.rows.SessionRow.{SessionRow}
use Rattle.rp_login.specs.declared.rows.Stage.TheVariants as stage
use Rattle.rp_login.specs.declared.table.RpTable.TheVariants as table
use Rattle.rp_exchange.specs.declared.no.RpNo.TheVariants as no
use Rattle.rp_exchange.specs.declared.reply.RpReply.TheVariants.{Refused, NotHere}
use Rattle.rp_answer.specs.Asked.{if_wanted, state_named, code_heard, claims_read, claims_judged, sub_in, sid_in}
use Rattle.rp_answer.specs.Logins.{login_started, leaves_login, ends_login, login_kept, logins, login_of, live_login, live_logins, has_login_browser}
use Rattle.rp_answer.specs.Pendings.{pending_by, answer_named, is_answered, ends_pending, pending_kept, pendings, pending_of, live_pending, live_pendings}
use Rattle.rp_answer.specs.Visits.{nonce_by, visit_by, visit_kept, visits, live_visit, live_visits}
use Rattle.rp_answer.proofs.Sample.{word, words, pair_of, only_code, id_and_token, code_and_id}
use Rattle.rp_answer.proofs.FirstVisit.{begin_entry, asked, past_begin, callback_entry, exchange, past_callback, claims, tokens_entry, entered, past_entered}
use Rattle.rp_answer.proofs.FrontLogin.{past_front_entered, stray, waiting}
use Rattle.rp_answer.proofs.EachRefusal.{twice, error_response, hybrid_response, hybrid_exchange, failed_exchange, unknown_exchange, second_begin, asked_second}

-- ---- what an ask tells

wanted : (t : Text) → if_wanted true (Some t) ≡ Some t
wanted t = refl

unwanted : (t : Text) → if_wanted false (Some t) ≡ None
unwanted t = refl

state_of_response : state_named stray.ask ≡ Some (word 2)
state_of_response = refl

state_of_unread : state_named twice.ask ≡ None
state_of_unread = refl

state_of_begin : state_named begin_entry.ask ≡ None
state_of_begin = refl

code_of_response : code_heard only_code stray.ask ≡ Some (codes "code")
code_of_response = refl

-- a code counts only where the response type has one
code_uncalled : code_heard id_and_token stray.ask ≡ None
code_uncalled = refl

read_claims : (t : Text) → claims_read (Some (Ok (claims t))) ≡ Some (claims t)
read_claims t = refl

unread_claims : claims_read (Some (Err id_no.Issuer)) ≡ None
unread_claims = refl

judged_claims : claims_judged code_and_id stray.ask ≡ Some (claims (codes "nonce"))
judged_claims = refl

claims_uncalled : claims_judged only_code stray.ask ≡ None
claims_uncalled = refl

claims_of_tokens : (t : Text) → claims_judged only_code (tokens_entry 1000 t).ask ≡ Some (claims t)
claims_of_tokens t = refl

sub_of_claims : (t : Text) → sub_in (Some (claims t)) ≡ Some (codes "alice")
sub_of_claims t = refl

sub_of_none : sub_in None ≡ None
sub_of_none = refl

sid_of_claims : (t : Text) → sid_in (Some (claims t)) ≡ Some (codes "sid")
sid_of_claims t = refl

sid_of_none : (t : Text) → sid_in (Some (record (claims t) { sid = None })) ≡ None
sid_of_none t = refl

-- ---- logins

abbrev pub login : LoginRow
login = record { state = word 2; nonce = word 3; browser = word 1; begun = 1000; by = 0 }

begin_starts_login : login_started 0 1000 (words 1) begin_entry.ask asked ≡ Some login
begin_starts_login = refl

full_starts_none : login_started 0 1000 (words 1) begin_entry.ask (Refused (no.Full table.Logins)) ≡ None
full_starts_none = refl

one_login : logins past_begin ≡ login ∷ []
one_login = refl

-- its own browser's response ends it, good or bad
exchange_ends_login : logins past_callback ≡ []
exchange_ends_login = refl

error_ends_login : logins (pair_of error_response (Refused (no.Provider AccessDenied)) ∷ past_begin) ≡ []
error_ends_login = refl

-- another browser's does not, nor one for which there was no room
other_browser_leaves_login : logins (pair_of (callback_entry 1000 (word 5)) (Refused no.WrongBrowser) ∷ past_begin) ≡ login ∷ []
other_browser_leaves_login = refl

full_leaves_login : logins (pair_of (callback_entry 1000 (word 1)) (Refused (no.Full table.Pendings)) ∷ past_begin) ≡ login ∷ []
full_leaves_login = refl

twice_leaves_login : logins (pair_of twice (Refused (no.Twice (codes "state"))) ∷ past_begin) ≡ login ∷ []
twice_leaves_login = refl

-- a second begin leaves the first login, and counts its own place
second_login : logins (pair_of second_begin asked_second ∷ past_begin) ≡ login ∷ (record { state = word 6; nonce = word 7; browser = word 5; begun = 1000; by = 1 }) ∷ []
second_login = refl

-- the rows of other states stand
exchange_leaves_second : logins (pair_of (callback_entry 1000 (word 1)) exchange ∷ pair_of second_begin asked_second ∷ past_begin)
    ≡ (record { state = word 6; nonce = word 7; browser = word 5; begun = 1000; by = 1 }) ∷ []
exchange_leaves_second = refl

exchange_keeps_none : login_kept past_begin (pair_of (callback_entry 1000 (word 1)) exchange) login ≡ None
exchange_keeps_none = refl

begin_keeps_all : login_kept past_begin (pair_of second_begin asked_second) login ≡ Some login
begin_keeps_all = refl

stale_leaves : leaves_login no.StaleLogin ≡ true
stale_leaves = refl

bad_token_does_not_leave : (why : IdNo) → leaves_login (no.Id why) ≡ false
bad_token_does_not_leave why = refl

exchange_ends : ends_login exchange ≡ true
exchange_ends = refl

not_here_ends_none : ends_login NotHere ≡ false
not_here_ends_none = refl

login_found : login_of past_begin (Some (word 2)) ≡ Some login
login_found = refl

login_not_found : login_of past_begin (Some (word 9)) ≡ None
login_not_found = refl

login_lives : live_login past_begin 1599 (Some (word 2)) ≡ Some login
login_lives = refl

login_is_over : live_login past_begin 1600 (Some (word 2)) ≡ None
login_is_over = refl

logins_live : live_logins past_begin 1599 ≡ login ∷ []
logins_live = refl

no_login_lives : live_logins past_begin 1600 ≡ []
no_login_lives = refl

browser_of_login : has_login_browser past_begin 1599 (word 1) ≡ true
browser_of_login = refl

browser_of_none : has_login_browser past_begin 1599 (word 5) ≡ false
browser_of_none = refl

browser_of_old_login : has_login_browser past_begin 1600 (word 1) ≡ false
browser_of_old_login = refl

-- ---- pending exchanges

exchange_makes_pending : pending_by only_code 1000 past_begin [] (callback_entry 1000 (word 1)).ask exchange ≡ Some waiting
exchange_makes_pending = refl

refusal_makes_none : pending_by only_code 1000 past_begin [] (callback_entry 1000 (word 1)).ask (Refused no.WrongBrowser) ≡ None
refusal_makes_none = refl

-- the ID Token that came with the code leaves its subject and session
hybrid_makes_pending : (code t h : Text) → pending_by code_and_id 1000 past_begin [] (hybrid_response code t h).ask (hybrid_exchange code)
    ≡ Some (record waiting { sub = Some (codes "alice"); sid = Some (codes "sid"); code = Some code })
hybrid_makes_pending code t h = refl

one_pending : pendings only_code past_callback ≡ waiting ∷ []
one_pending = refl

-- its first answer ends it, good or bad
entered_ends_pending : (t : Text) → pendings only_code (past_entered t) ≡ []
entered_ends_pending t = refl

failure_ends_pending : pendings only_code (pair_of failed_exchange (Refused (no.Tokens (tokens_no.Status 400))) ∷ past_callback) ≡ []
failure_ends_pending = refl

-- not one for which there was no room, nor one of another word
full_leaves_pending : (t : Text) → pendings only_code (pair_of (tokens_entry 1000 t) (Refused (no.Full table.Sessions)) ∷ past_callback) ≡ waiting ∷ []
full_leaves_pending t = refl

other_leaves_pending : pendings only_code (pair_of unknown_exchange (Refused no.StalePending) ∷ past_callback) ≡ waiting ∷ []
other_leaves_pending = refl

answer_keeps_none : (t : Text) → pending_kept past_callback (pair_of (tokens_entry 1000 t) entered) waiting ≡ None
answer_keeps_none t = refl

begin_keeps_pending : pending_kept past_callback (pair_of second_begin asked_second) waiting ≡ Some waiting
begin_keeps_pending = refl

tokens_answer : (t : Text) → answer_named (tokens_entry 1000 t).ask ≡ Some (word 17, stage.Tokens)
tokens_answer t = refl

callback_answers_none : answer_named stray.ask ≡ None
callback_answers_none = refl

answers_own : is_answered (Some (word 17, stage.Tokens)) waiting ≡ true
answers_own = refl

answers_no_other : is_answered (Some (word 18, stage.Tokens)) waiting ≡ false
answers_no_other = refl

answers_no_other_stage : is_answered (Some (word 17, stage.Info)) waiting ≡ false
answers_no_other_stage = refl

full_ends_none : ends_pending (Refused (no.Full table.Sessions)) ≡ false
full_ends_none = refl

pending_found : pending_of only_code past_callback (word 17) ≡ Some waiting
pending_found = refl

pending_not_found : pending_of only_code past_callback (word 18) ≡ None
pending_not_found = refl

pending_lives : live_pending only_code past_callback 1119 (word 17) stage.Tokens ≡ Some waiting
pending_lives = refl

pending_is_over : live_pending only_code past_callback 1120 (word 17) stage.Tokens ≡ None
pending_is_over = refl

pendings_live : live_pendings only_code past_callback 1119 ≡ waiting ∷ []
pendings_live = refl

no_pending_lives : live_pendings only_code past_callback 1120 ≡ []
no_pending_lives = refl

-- ---- visits

abbrev pub visit : SessionRow
visit = record { word = word 26; nonce = word 3; sub = codes "alice"; sid = Some (codes "sid"); entered = 1000 }

nonce_of_login : nonce_by only_code past_begin stray.ask ≡ Some (word 3)
nonce_of_login = refl

nonce_of_exchange : (t : Text) → nonce_by only_code past_callback (tokens_entry 1000 t).ask ≡ Some (word 3)
nonce_of_exchange t = refl

nonce_of_begin : nonce_by only_code past_begin begin_entry.ask ≡ None
nonce_of_begin = refl

tokens_make_visit : (t : Text) → visit_by only_code 1000 past_callback (tokens_entry 1000 t).ask entered ≡ Some visit
tokens_make_visit t = refl

refusal_makes_no_visit : (t : Text) → visit_by only_code 1000 past_callback (tokens_entry 1000 t).ask (Refused no.SubjectDiffers) ≡ None
refusal_makes_no_visit t = refl

one_visit : (t : Text) → visits only_code (past_entered t) ≡ visit ∷ []
one_visit t = refl

-- of the ID Token of the response
one_front_visit : (access t h : Text) → visits id_and_token (past_front_entered access t h) ≡ record visit { word = word 18 } ∷ []
one_front_visit access t h = refl

no_visit_yet : visits only_code past_callback ≡ []
no_visit_yet = refl

all_keep_visits : (t : Text) → visit_kept (past_entered t) (pair_of second_begin asked_second) visit ≡ Some visit
all_keep_visits t = refl

visit_lives : (t : Text) → live_visit only_code (past_entered t) 29799 (Some (word 26)) ≡ Some visit
visit_lives t = refl

visit_is_over : (t : Text) → live_visit only_code (past_entered t) 29800 (Some (word 26)) ≡ None
visit_is_over t = refl

visits_live : (t : Text) → live_visits only_code (past_entered t) 29799 ≡ visit ∷ []
visits_live t = refl

no_visit_lives : (t : Text) → live_visits only_code (past_entered t) 29800 ≡ []
no_visit_lives t = refl
