-- The answers of one login by code, by computation. What is sealed and spelled stays closed.
use Rattle.std.proofs.Common.{◌≡◌, ℕ, true, false, [], ◌∷◌, Some, None, Ok, codes, refl}
use Rattle.std.specs.Str.{bytes_eq}
use Rattle.sso_base.specs.Words.{Word, Text, word_text}
use Rattle.sso_base.specs.declared.history.Entry.{Entry}
use Rattle.id_token.specs.declared.claims.IdClaims.{IdClaims}
use Rattle.id_token.specs.declared.no.IdNo.TheVariants as id_no
use Rattle.auth_answer.specs.declared.heard.Heard.{Heard}
use Rattle.token_endpoint.specs.Request.{token_message}
use Rattle.login_request.specs.Request.{login_location}
use Rattle.rp_exchange.specs.declared.ask.RpAsk.{RpAsk}
use Rattle.rp_exchange.specs.declared.ask.RpAsk.TheVariants as ask
use Rattle.rp_exchange.specs.declared.no.RpNo.TheVariants as no
use Rattle.rp_exchange.specs.declared.reply.RpReply.{RpReply}
use Rattle.rp_exchange.specs.declared.reply.RpReply.TheVariants.{Ask, Exchange, Entered, User, Nobody, Refused}
use Rattle.rp_answer.specs.Past.{RpPast}
use Rattle.rp_answer.specs.Answering.{rp_answer}
use Rattle.rp_answer.proofs.Sample.{word, entry_at, pair_of, op, shop_client, shop, shop_uri, shop_setup, claims_for}

abbrev pub begin_entry : Entry RpAsk
begin_entry = entry_at 1000 1 (ask.Begin None)

abbrev pub asked : RpReply
asked = Ask (login_location shop_client shop op (word 2) (word 3)) (word 1)

pub begin_asks : rp_answer shop_setup [] begin_entry ≡ asked
unfolding rp_answer
begin_asks = refl

abbrev pub past_begin : RpPast
past_begin = pair_of begin_entry asked ∷ []

-- the browser keeps its word where a login of it lives
pub begin_keeps_browser : rp_answer shop_setup past_begin (entry_at 1599 9 (ask.Begin (Some (word 1))))
    ≡ Ask (login_location shop_client shop op (word 10) (word 11)) (word 1)
unfolding rp_answer
begin_keeps_browser = refl

pub begin_of_other_browser : rp_answer shop_setup past_begin (entry_at 1599 9 (ask.Begin (Some (word 5))))
    ≡ Ask (login_location shop_client shop op (word 10) (word 11)) (word 9)
unfolding rp_answer
begin_of_other_browser = refl

abbrev pub heard : Heard
heard = record { state = Some (word 2); error = None; code = Some (codes "code"); access = None; id = None }

abbrev pub callback_entry : ℕ → Word → Entry RpAsk
callback_entry at browser = entry_at at 17 (ask.Callback (Ok heard) None (Some browser))

abbrev pub exchange : RpReply
exchange = Exchange (word 17) (token_message shop_client op.token (codes "code") shop_uri)

pub callback_exchanges : rp_answer shop_setup past_begin (callback_entry 1599 (word 1)) ≡ exchange
unfolding rp_answer
callback_exchanges = refl

pub callback_exchanges_at_once : rp_answer shop_setup past_begin (callback_entry 1000 (word 1)) ≡ exchange
unfolding rp_answer
callback_exchanges_at_once = refl

-- a login lives for 600 seconds, in the browser that began it
pub callback_after_ten_minutes : rp_answer shop_setup past_begin (callback_entry 1600 (word 1)) ≡ Refused no.StaleLogin
unfolding rp_answer
callback_after_ten_minutes = refl

pub callback_of_other_browser : rp_answer shop_setup past_begin (callback_entry 1000 (word 5)) ≡ Refused no.WrongBrowser
unfolding rp_answer
callback_of_other_browser = refl

abbrev pub past_callback : RpPast
past_callback = pair_of (callback_entry 1000 (word 1)) exchange ∷ past_begin

-- a callback ends its login
pub callback_twice : rp_answer shop_setup past_callback (callback_entry 1000 (word 1)) ≡ Refused no.StaleLogin
unfolding rp_answer
callback_twice = refl

-- but that of another browser does not
pub callback_after_other_browser : rp_answer shop_setup (pair_of (callback_entry 1000 (word 5)) (Refused no.WrongBrowser) ∷ past_begin) (callback_entry 1000 (word 1)) ≡ exchange
unfolding rp_answer
callback_after_other_browser = refl

abbrev pub claims : Text → IdClaims
claims nonce = claims_for (codes "shop-client") nonce

abbrev pub tokens_entry : ℕ → Text → Entry RpAsk
tokens_entry at nonce =
    entry_at at 25 (ask.Tokens (word 17) (Ok (record { access = codes "access"; id = codes "id" })) (Some (Ok (claims nonce))))

abbrev pub entered : RpReply
entered = Entered (word 26) (codes "alice")

pub tokens_enter : (t : Text) → bytes_eq t (word_text (word 3)) ≡ true → rp_answer shop_setup past_callback (tokens_entry 1119 t) ≡ entered
unfolding rp_answer
tokens_enter t same = rw same refl

pub tokens_enter_at_once : (t : Text) → bytes_eq t (word_text (word 3)) ≡ true → rp_answer shop_setup past_callback (tokens_entry 1000 t) ≡ entered
unfolding rp_answer
tokens_enter_at_once t same = rw same refl

-- an exchange waits for 120 seconds
pub tokens_after_two_minutes : (t : Text) → rp_answer shop_setup past_callback (tokens_entry 1120 t) ≡ Refused no.StalePending
unfolding rp_answer
tokens_after_two_minutes t = refl

-- the nonce is the login's
pub tokens_of_other_nonce : (t : Text) → bytes_eq t (word_text (word 3)) ≡ false → rp_answer shop_setup past_callback (tokens_entry 1000 t) ≡ Refused (no.Id id_no.Nonce)
unfolding rp_answer
tokens_of_other_nonce t other = rw other refl

abbrev pub past_entered : Text → RpPast
past_entered t = pair_of (tokens_entry 1000 t) entered ∷ past_callback

-- an exchange is answered once
pub tokens_twice : (t : Text) → rp_answer shop_setup (past_entered t) (tokens_entry 1000 t) ≡ Refused no.StalePending
unfolding rp_answer
tokens_twice t = refl

abbrev pub visit_entry : ℕ → Entry RpAsk
visit_entry at = entry_at at 29 (ask.Visit (Some (word 26)))

-- a session lives for 28,800 seconds
pub visit_finds_user : (t : Text) → rp_answer shop_setup (past_entered t) (visit_entry 29799) ≡ User (codes "alice")
unfolding rp_answer
visit_finds_user t = refl

pub visit_after_eight_hours : (t : Text) → rp_answer shop_setup (past_entered t) (visit_entry 29800) ≡ Nobody
unfolding rp_answer
visit_after_eight_hours t = refl

pub visit_without_session : (t : Text) → rp_answer shop_setup (past_entered t) (entry_at 1000 29 (ask.Visit None)) ≡ Nobody
unfolding rp_answer
visit_without_session t = refl
