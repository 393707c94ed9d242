-- Logins whose ID Token comes in the authorization response, and a token that comes uncalled, by computation.
use Rattle.std.proofs.Common.{◌≡◌, ℕ, true, false, [], ◌∷◌, Some, None, Ok, codes, refl}
use Rattle.std.specs.Str.{bytes_eq}
use Rattle.sso_base.specs.Words.{Text, word_text}
use Rattle.sso_base.specs.declared.history.Entry.{Entry}
use Rattle.id_token.specs.declared.claims.IdClaims.{IdClaims}
use Rattle.id_token.specs.declared.no.IdNo.TheVariants as id_no
use Rattle.id_token.specs.HalfHash.{half_hash_of}
use Rattle.auth_answer.specs.declared.heard.Heard.{Heard}
use Rattle.login_request.specs.Request.{login_location}
use Rattle.rp_login.specs.declared.rows.PendingRow.{PendingRow}
use Rattle.rp_login.specs.declared.rows.Stage.TheVariants as stage
use Rattle.rp_exchange.specs.declared.ask.RpAsk.{RpAsk}
use Rattle.rp_exchange.specs.declared.ask.RpAsk.TheVariants as ask
use Rattle.rp_exchange.specs.declared.no.RpNo.TheVariants as no
use Rattle.rp_exchange.specs.declared.reply.RpReply.{RpReply}
use Rattle.rp_exchange.specs.declared.reply.RpReply.TheVariants.{Ask, Entered, User, Refused, NotHere}
use Rattle.rp_answer.specs.Past.{RpPast}
use Rattle.rp_answer.specs.Pendings.{pendings}
use Rattle.rp_answer.specs.Answering.{rp_answer}
use Rattle.rp_answer.proofs.Sample.{word, entry_at, pair_of, op, only_code, news_client, news, shop_setup, news_setup, claims_for}
use Rattle.rp_answer.proofs.FirstVisit.{begin_entry, past_begin, exchange, claims}

abbrev pub asked_front : RpReply
asked_front = Ask (login_location news_client news op (word 2) (word 3)) (word 1)

pub begin_asks_front : rp_answer news_setup [] begin_entry ≡ asked_front
unfolding rp_answer
begin_asks_front = refl

abbrev pub past_front : RpPast
past_front = pair_of begin_entry asked_front ∷ []

abbrev pub heard_front : Text → Heard
heard_front access = record { state = Some (word 2); error = None; code = None; access = Some access; id = Some (codes "id") }

abbrev pub front_claims : Text → IdClaims
front_claims nonce = claims_for (codes "news-client") nonce

abbrev pub with_hash : Text → Text → IdClaims
with_hash nonce hash = record (front_claims nonce) { at_hash = Some hash }

abbrev pub callback_with : ℕ → Text → IdClaims → Entry RpAsk
callback_with at access token = entry_at at 17 (ask.Callback (Ok (heard_front access)) (Some (Ok token)) (Some (word 1)))

abbrev pub entered_front : RpReply
entered_front = Entered (word 18) (codes "alice")

pub front_enters : (access t h : Text) → bytes_eq t (word_text (word 3)) ≡ true → bytes_eq h (half_hash_of access) ≡ true
    → rp_answer news_setup past_front (callback_with 1359 access (with_hash t h)) ≡ entered_front
unfolding rp_answer
front_enters access t h nonce hash = rw (nonce, hash) refl

-- 300 seconds of life and 60 of grace
pub front_too_late : (access t h : Text) → rp_answer news_setup past_front (callback_with 1360 access (with_hash t h)) ≡ Refused (no.Id (id_no.Expired 1300))
unfolding rp_answer
front_too_late access t h = refl

-- the access token of another login
pub front_with_other_token : (access t h : Text) → bytes_eq t (word_text (word 3)) ≡ true → bytes_eq h (half_hash_of access) ≡ false
    → rp_answer news_setup past_front (callback_with 1000 access (with_hash t h)) ≡ Refused (no.Id id_no.TokenHash)
unfolding rp_answer
front_with_other_token access t h nonce hash = rw (nonce, hash) refl

-- an access token without its hash
pub front_without_hash : (access t : Text) → bytes_eq t (word_text (word 3)) ≡ true
    → rp_answer news_setup past_front (callback_with 1000 access (front_claims t)) ≡ Refused (no.Id id_no.TokenHash)
unfolding rp_answer
front_without_hash access t nonce = rw nonce refl

-- the ID Token of another client
pub front_of_other_client : (access t : Text) → rp_answer news_setup past_front (callback_with 1000 access (claims t)) ≡ Refused (no.Id id_no.Audience)
unfolding rp_answer
front_of_other_client access t = refl

-- a text of an ID Token that was not read comes from no request
pub token_not_read : (access : Text) → rp_answer news_setup past_front (entry_at 1000 17 (ask.Callback (Ok (heard_front access)) None (Some (word 1)))) ≡ NotHere
unfolding rp_answer
token_not_read access = refl

abbrev pub past_front_entered : Text → Text → Text → RpPast
past_front_entered access t h = pair_of (callback_with 1000 access (with_hash t h)) entered_front ∷ past_front

pub front_visit_finds_user : (access t h : Text) → rp_answer news_setup (past_front_entered access t h) (entry_at 1001 21 (ask.Visit (Some (word 18)))) ≡ User (codes "alice")
unfolding rp_answer
front_visit_finds_user access t h = refl

-- a login enters once
pub front_twice : (access t h : Text) → rp_answer news_setup (past_front_entered access t h) (callback_with 1000 access (with_hash t h)) ≡ Refused no.StaleLogin
unfolding rp_answer
front_twice access t h = refl

-- ---- an ID Token that comes to a login by code is not judged, and leaves nothing

abbrev pub stray : Entry RpAsk
stray =
    entry_at 1000 17 (ask.Callback
    (Ok (record { state = Some (word 2); error = None; code = Some (codes "code"); access = None; id = Some (codes "id") }))
    (Some (Ok (claims (codes "nonce"))))
    (Some (word 1)))

pub stray_token_is_passed_over : rp_answer shop_setup past_begin stray ≡ exchange
unfolding rp_answer
stray_token_is_passed_over = refl

abbrev pub waiting : PendingRow
waiting =
    record {
      word = word 17;
      nonce = word 3;
      begun = 1000;
      since = 1000;
      sub = None;
      sid = None;
      code = Some (codes "code");
      stage = stage.Tokens;
      by = 0;
    }

pub stray_token_leaves_nothing : pendings only_code (pair_of stray exchange ∷ past_begin) ≡ waiting ∷ []
stray_token_leaves_nothing = refl
