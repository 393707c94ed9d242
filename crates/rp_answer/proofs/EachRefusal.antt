-- Each refusal of a relying party by one example, by computation.
use Rattle.std.proofs.Common.{◌≡◌, ℕ, true, false, [], ◌∷◌, Option, Some, None, Result, Ok, Err, codes, refl}
use Rattle.std.specs.Str.{bytes_eq}
use Rattle.sso_base.specs.Words.{Word, Text, word_text}
use Rattle.sso_base.specs.declared.history.Entry.{Entry}
use Rattle.id_token.specs.declared.claims.IdClaims.{IdClaims}
use Rattle.id_token.specs.declared.no.IdNo.{IdNo}
use Rattle.id_token.specs.declared.no.IdNo.TheVariants as id_no
use Rattle.id_token.specs.HalfHash.{half_hash_of}
use Rattle.oidc_words.specs.declared.errors.AuthError.TheVariants.{AccessDenied}
use Rattle.auth_answer.specs.declared.heard.Heard.{Heard}
use Rattle.auth_answer.specs.declared.no.AnswerNo.TheVariants as answer_no
use Rattle.token_endpoint.specs.Request.{token_message}
use Rattle.token_endpoint.specs.declared.no.TokensNo.{TokensNo}
use Rattle.token_endpoint.specs.declared.no.TokensNo.TheVariants as tokens_no
use Rattle.token_endpoint.specs.declared.reading.Tokens.{Tokens}
use Rattle.login_request.specs.Request.{login_location}
use Rattle.rp_login.specs.declared.table.RpTable.TheVariants as table
use Rattle.rp_exchange.specs.declared.ask.RpAsk.{RpAsk}
use Rattle.rp_exchange.specs.declared.ask.RpAsk.TheVariants as ask
use Rattle.rp_exchange.specs.declared.no.Part.TheVariants as part
use Rattle.rp_exchange.specs.declared.no.RpNo.TheVariants as no
use Rattle.rp_exchange.specs.declared.reply.RpReply.{RpReply}
use Rattle.rp_exchange.specs.declared.reply.RpReply.TheVariants.{Ask, Exchange, Entered, Refused, NotHere}
use Rattle.rp_answer.specs.Past.{RpPast}
use Rattle.rp_answer.specs.Answering.{rp_answer}
use Rattle.rp_answer.proofs.Sample.{word, entry_at, pair_of, op, shop_client, shop, shop_uri, news_client, news, hybrid, shop_setup, news_setup, hybrid_setup}
use Rattle.rp_answer.proofs.FirstVisit.{begin_entry, past_begin, heard, past_callback, claims}
use Rattle.rp_answer.proofs.FrontLogin.{past_front, heard_front, with_hash, past_front_entered}

-- ---- authorization responses

-- a response that the browser of the login brings
abbrev pub response : Heard → Option (Result IdClaims IdNo) → Entry RpAsk
response heard id = entry_at 1000 17 (ask.Callback (Ok heard) id (Some (word 1)))

-- a part stands twice
abbrev pub twice : Entry RpAsk
twice = entry_at 1000 17 (ask.Callback (Err (answer_no.Twice (codes "state"))) None (Some (word 1)))

pub twice_is_refused : rp_answer shop_setup past_begin twice ≡ Refused (no.Twice (codes "state"))
unfolding rp_answer
twice_is_refused = refl

-- want of memory comes from no request
pub unread_is_not_here : rp_answer shop_setup past_begin (entry_at 1000 17 (ask.Callback (Err answer_no.NoMemory) None (Some (word 1)))) ≡ NotHere
unfolding rp_answer
unread_is_not_here = refl

abbrev pub stateless : Entry RpAsk
stateless = response (record heard { state = None }) None

pub stateless_is_refused : rp_answer shop_setup past_begin stateless ≡ Refused no.NoState
unfolding rp_answer
stateless_is_refused = refl

abbrev pub unknown_state : Entry RpAsk
unknown_state = response (record heard { state = Some (word 9) }) None

pub unknown_state_is_refused : rp_answer shop_setup past_begin unknown_state ≡ Refused no.StaleLogin
unfolding rp_answer
unknown_state_is_refused = refl

abbrev pub no_browser : Entry RpAsk
no_browser = entry_at 1000 17 (ask.Callback (Ok heard) None None)

pub no_browser_is_refused : rp_answer shop_setup past_begin no_browser ≡ Refused no.WrongBrowser
unfolding rp_answer
no_browser_is_refused = refl

-- the provider's error comes before the parts that are not there
abbrev pub error_response : Entry RpAsk
error_response = response (record heard { error = Some AccessDenied; code = None }) None

pub error_is_refused : rp_answer shop_setup past_begin error_response ≡ Refused (no.Provider AccessDenied)
unfolding rp_answer
error_is_refused = refl

abbrev pub codeless : Entry RpAsk
codeless = response (record heard { code = None }) None

pub codeless_is_refused : rp_answer shop_setup past_begin codeless ≡ Refused (no.Missing part.Code)
unfolding rp_answer
codeless_is_refused = refl

-- a missing part comes before a bad ID Token
pub accessless_is_refused : (access : Text) → rp_answer news_setup past_front (response (record (heard_front access) { access = None }) (Some (Err id_no.Issuer))) ≡ Refused (no.Missing part.Access)
unfolding rp_answer
accessless_is_refused access = refl

pub idless_is_refused : (access : Text) → rp_answer news_setup past_front (response (record (heard_front access) { id = None }) None) ≡ Refused (no.Missing part.Id)
unfolding rp_answer
idless_is_refused access = refl

-- an ID Token that could not be read
abbrev pub unread_token : Text → Entry RpAsk
unread_token access = response (heard_front access) (Some (Err (id_no.Missing (codes "iss"))))

pub unread_token_is_refused : (access : Text) → rp_answer news_setup past_front (unread_token access) ≡ Refused (no.Id (id_no.Missing (codes "iss")))
unfolding rp_answer
unread_token_is_refused access = refl

-- ---- token responses

abbrev pub came : Tokens
came = record { access = codes "access"; id = codes "id" }

abbrev pub token_response : Word → Result Tokens TokensNo → Option (Result IdClaims IdNo) → Entry RpAsk
token_response w came id = entry_at 1000 25 (ask.Tokens w came id)

-- no exchange of this word
abbrev pub unknown_exchange : Entry RpAsk
unknown_exchange = token_response (word 18) (Err (tokens_no.Status 400)) None

pub unknown_exchange_is_refused : rp_answer shop_setup past_callback unknown_exchange ≡ Refused no.StalePending
unfolding rp_answer
unknown_exchange_is_refused = refl

abbrev pub failed_exchange : Entry RpAsk
failed_exchange = token_response (word 17) (Err (tokens_no.Status 400)) None

pub failed_exchange_is_refused : rp_answer shop_setup past_callback failed_exchange ≡ Refused (no.Tokens (tokens_no.Status 400))
unfolding rp_answer
failed_exchange_is_refused = refl

abbrev pub bad_token : Entry RpAsk
bad_token = token_response (word 17) (Ok came) (Some (Err id_no.Issuer))

pub bad_token_is_refused : rp_answer shop_setup past_callback bad_token ≡ Refused (no.Id id_no.Issuer)
unfolding rp_answer
bad_token_is_refused = refl

-- something was read of the ID Token that every token response has
pub token_unread_is_not_here : rp_answer shop_setup past_callback (token_response (word 17) (Ok came) None) ≡ NotHere
unfolding rp_answer
token_unread_is_not_here = refl

-- ---- two ID Tokens of one login have one subject: an exchange behind a response that has one too

abbrev pub asked_hybrid : RpReply
asked_hybrid = Ask (login_location shop_client hybrid op (word 2) (word 3)) (word 1)

pub begin_asks_hybrid : rp_answer hybrid_setup [] begin_entry ≡ asked_hybrid
unfolding rp_answer
begin_asks_hybrid = refl

abbrev pub past_hybrid_begin : RpPast
past_hybrid_begin = pair_of begin_entry asked_hybrid ∷ []

abbrev pub heard_hybrid : Text → Heard
heard_hybrid code = record { state = Some (word 2); error = None; code = Some code; access = None; id = Some (codes "id") }

abbrev pub hybrid_response : Text → Text → Text → Entry RpAsk
hybrid_response code t h = response (heard_hybrid code) (Some (Ok (record (claims t) { c_hash = Some h })))

abbrev pub hybrid_exchange : Text → RpReply
hybrid_exchange code = Exchange (word 17) (token_message shop_client op.token code shop_uri)

pub hybrid_exchanges : (code t h : Text) → bytes_eq t (word_text (word 3)) ≡ true → bytes_eq h (half_hash_of code) ≡ true
    → rp_answer hybrid_setup past_hybrid_begin (hybrid_response code t h) ≡ hybrid_exchange code
unfolding rp_answer
hybrid_exchanges code t h nonce hash = rw (nonce, hash) refl

-- the code of another login
pub hybrid_with_other_code : (code t h : Text) → bytes_eq t (word_text (word 3)) ≡ true → bytes_eq h (half_hash_of code) ≡ false
    → rp_answer hybrid_setup past_hybrid_begin (hybrid_response code t h) ≡ Refused (no.Id id_no.CodeHash)
unfolding rp_answer
hybrid_with_other_code code t h nonce hash = rw (nonce, hash) refl

abbrev pub past_hybrid : Text → Text → Text → RpPast
past_hybrid code t h = pair_of (hybrid_response code t h) (hybrid_exchange code) ∷ past_hybrid_begin

abbrev pub hybrid_tokens : IdClaims → Entry RpAsk
hybrid_tokens token = token_response (word 17) (Ok came) (Some (Ok token))

pub same_subject_enters : (code t h : Text) → bytes_eq t (word_text (word 3)) ≡ true
    → rp_answer hybrid_setup (past_hybrid code t h) (hybrid_tokens (claims t)) ≡ Entered (word 26) (codes "alice")
unfolding rp_answer
same_subject_enters code t h nonce = rw nonce refl

abbrev pub bobs : Text → IdClaims
bobs t = record (claims t) { sub = codes "bob" }

pub other_subject_is_refused : (code t h : Text) → bytes_eq t (word_text (word 3)) ≡ true
    → rp_answer hybrid_setup (past_hybrid code t h) (hybrid_tokens (bobs t)) ≡ Refused no.SubjectDiffers
unfolding rp_answer
other_subject_is_refused code t h nonce = rw nonce refl

-- ---- a drawn word that a row of the table has already: no row is added

-- the state of a login
pub state_drawn_again : rp_answer shop_setup past_begin begin_entry ≡ Refused (no.Full table.Logins)
unfolding rp_answer
state_drawn_again = refl

-- a second login, of another browser, while the first waits for its tokens
abbrev pub second_begin : Entry RpAsk
second_begin = entry_at 1000 5 (ask.Begin None)

abbrev pub asked_second : RpReply
asked_second = Ask (login_location shop_client shop op (word 6) (word 7)) (word 5)

pub second_begin_asks : rp_answer shop_setup past_callback second_begin ≡ asked_second
unfolding rp_answer
second_begin_asks = refl

abbrev pub past_second : RpPast
past_second = pair_of second_begin asked_second ∷ past_callback

abbrev pub second_callback : ℕ → Entry RpAsk
second_callback n = entry_at 1000 n (ask.Callback (Ok (record heard { state = Some (word 6) })) None (Some (word 5)))

pub second_exchanges : rp_answer shop_setup past_second (second_callback 18) ≡ Exchange (word 18) (token_message shop_client op.token (codes "code") shop_uri)
unfolding rp_answer
second_exchanges = refl

pub exchange_drawn_again : rp_answer shop_setup past_second (second_callback 17) ≡ Refused (no.Full table.Pendings)
unfolding rp_answer
exchange_drawn_again = refl

-- a second login, of another browser, after the first entered
abbrev pub asked_second_front : RpReply
asked_second_front = Ask (login_location news_client news op (word 6) (word 7)) (word 5)

pub second_begin_asks_front : (access t h : Text) → rp_answer news_setup (past_front_entered access t h) second_begin ≡ asked_second_front
unfolding rp_answer
second_begin_asks_front access t h = refl

abbrev pub past_two_front : Text → Text → Text → RpPast
past_two_front access t h = pair_of second_begin asked_second_front ∷ past_front_entered access t h

abbrev pub second_front : ℕ → Text → IdClaims → Entry RpAsk
second_front n access token = entry_at 1000 n (ask.Callback (Ok (record (heard_front access) { state = Some (word 6) })) (Some (Ok token)) (Some (word 5)))

pub second_enters : (access t u h : Text) → bytes_eq u (word_text (word 7)) ≡ true → bytes_eq h (half_hash_of access) ≡ true
    → rp_answer news_setup (past_two_front access t h) (second_front 18 access (with_hash u h)) ≡ Entered (word 19) (codes "alice")
unfolding rp_answer
second_enters access t u h nonce hash = rw (nonce, hash) refl

pub session_drawn_again : (access t u h : Text) → bytes_eq u (word_text (word 7)) ≡ true → bytes_eq h (half_hash_of access) ≡ true
    → rp_answer news_setup (past_two_front access t h) (second_front 17 access (with_hash u h)) ≡ Refused (no.Full table.Sessions)
unfolding rp_answer
session_drawn_again access t u h nonce hash = rw (nonce, hash) refl
