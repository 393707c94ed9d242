-- `recent_sign_in` cannot be left out: alice signs in for a login that she leaves at the consent page. Another login of hers, at the
-- shop that wants a sign-in of the last minute, gets its consent page at once. She consents 61 seconds later, and is refused.
use Rattle.std.proofs.Common.{◌≡◌, ◌++◌, [], ◌∷◌, Some, None, codes, refl, arith, true}
use Rattle.std.specs.Fmt.{digits}
use Rattle.std.specs.Str.{IsUtf8}
use Rattle.sso_base.specs.Words.{Word, Text}
use Rattle.sso_base.specs.declared.http.Ask.{Ask}
use Rattle.sso_base.proofs.OnLiterals.{base64url_on_literals}
use Rattle.sso_base.proofs.Utf8Bytes.{IsUtf8-are_ascii}
use Rattle.hmac256.specs.Hmac.{proof_of, iterates_of, iterate_of}
use Rattle.hmac256.proofs.OnLiterals.{hmac_on_literals}
use Rattle.oidc_words.specs.Claims.{scopes_with_any}
use Rattle.oidc_words.specs.Scopes.{joined}
use Rattle.oidc_words.specs.Types.{spellings}
use Rattle.oidc_words.specs.Words.{parameter_words}
use Rattle.oidc_words.specs.declared.errors.AuthError.TheVariants.{LoginRequired}
use Rattle.client_registry.specs.ClientSets.{no_clients}
use Rattle.request_params.proofs.OnLiterals.{request_params_on_literals}
use Rattle.auth_request.specs.ClaimsParameter.{claims_of}
use Rattle.auth_request.specs.Parameters.{asking_of}
use Rattle.auth_request.specs.Judgement.{errors, judgement}
use Rattle.auth_request.specs.Values.{IsWishValue}
use Rattle.auth_request.specs.declared.wish.Verdict.TheVariants.{Grant}
use Rattle.auth_request.specs.declared.wish.Wish.{Wish}
use Rattle.user_interaction.specs.Need.{needed, needed_scopes}
use Rattle.login_request.specs.Request.{login_location}
use Rattle.code_grant.specs.declared.rows.TurnRow.{TurnRow}
use Rattle.code_grant.specs.declared.rows.SessionRow.{SessionRow}
use Rattle.op_exchange.specs.declared.ask.OpAsk.TheVariants as op_ask
use Rattle.op_exchange.specs.declared.reply.OpReply.TheVariants.{ConsentPage, Refused}
use Rattle.op_exchange.specs.Values.{IsOpAsk}
use Rattle.op_exchange.proofs.Sample.{profile_scopes}
use Rattle.op_request.specs.Prepared.{prepared as op_prepared}
use Rattle.op_answer.specs.Turns.{turn_of}
use Rattle.op_answer.specs.Sessions.{session_of}
use Rattle.op_answer.specs.Replies.{refusal_of}
use Rattle.op_answer.specs.Answering.{op_answer}
use Rattle.op_answer.proofs.FirstLogin as op
use Rattle.op_answer.specs.Past.{OpPair}
use Rattle.rp_exchange.specs.declared.ask.RpAsk.TheVariants as rp_ask
use Rattle.rp_exchange.specs.declared.reply.RpReply.{RpReply}
use Rattle.rp_exchange.specs.declared.reply.RpReply.TheVariants as rp
use Rattle.rp_exchange.specs.Values.{IsRpAsk}
use Rattle.rp_request.specs.Prepared.{prepared as rp_prepared}
use Rattle.rp_answer.specs.Answering.{rp_answer}
use Rattle.rp_answer.proofs.Sample.{word, op as provider, shop_client, entry_at, pair_of}
use Rattle.rp_answer.proofs.FirstVisit.{begin_entry}
use Rattle.rp_answer.specs.Past.{RpPair}
use Rattle.sso_places.specs.declared.types.Jar.{Jar}
use Rattle.sso_places.specs.declared.types.To.TheVariants as to
use Rattle.sso_places.specs.declared.types.WorldAsk.TheVariants.{Http}
use Rattle.sso_places.specs.Site.{own_site, setup_at}
use Rattle.sso_places.specs.World.{Place, Provider, Party, World, op_past, drawn, reply_at}
use Rattle.sso_places.proofs.SmallSite.{drawn_word, are_distinct, legal_entry}
use Rattle.sso_places.proofs.LoginByCode.{begins, logs_in, our_wish, got, posted, consent_legal, state_text, nonce_text}
use Rattle.sso_places.specs.Cookies.{no_jar}
use Rattle.web_requests.specs.Sending.{sent}
use Rattle.web_requests.specs.Locations.{location_of}
use Rattle.web_requests.specs.Following.{followed}
use Rattle.web_requests.specs.Posting.{consent_posted}
use Rattle.honest_places.specs.Conditions.{recent_sign_in}
use Rattle.honest_places.specs.InTime.{IsConsentInTime}
use Rattle.honest_places.specs.Login.{MayLogInBut, called_for, IsHonestBut, begun, went_on}
use Rattle.honest_worlds.specs.Needed.{FailsWithout}
use Rattle.honest_worlds.proofs.Building.{entry_then, SessionLives, of_row, begun_stands, fails_there}
use Rattle.honest_worlds.proofs.Growing.{Stands, provider_stands, party_stands}
use Rattle.honest_worlds.proofs.FirstPlaces.{alice, alice_may, party_jar, second_jar}
use Rattle.honest_worlds.proofs.StrictSite.{strict, strict_registry, recent_shop}

-- ---- what the shop asks for, with a state and a nonce

abbrev query : Text → Text → Text
query state nonce =
    codes "response_type=code&client_id=shop-client&redirect_uri=http%3A%2F%2F127.0.0.1%3A8081%2Fcb&scope=openid+profile&state=" ++ state ++ codes "&nonce=" ++ nonce ++ codes "&max_age=60"

abbrev shop_wish : Text → Text → Wish
shop_wish state nonce = record our_wish { state = Some state; nonce = Some nonce; max_age = Some 60 }

abbrev asks_for : Word → Word → Word → RpReply
asks_for state nonce browser = rp.Ask (login_location shop_client recent_shop provider state nonce) browser

abbrev authorizes_with : Text → Text → Jar → Ask
authorizes_with state nonce jar = record (got (codes "/authorize") (query state nonce) jar.first) { second = jar.second }

wish_is_value : (state nonce : Text) → IsUtf8 state → IsUtf8 nonce → IsWishValue (shop_wish state nonce)
wish_is_value state nonce state_text nonce_text = record {
  client = omega arith;
  redirect = IsUtf8-are_ascii our_wish.redirect refl;
  state = state_text;
  nonce = nonce_text;
  max_age = omega arith;
  subs = tt;
  id_asked = tt;
  info_asked = tt;
}

-- ---- before: a login is begun, and alice signs in

abbrev first_pair : RpPair
first_pair = pair_of begin_entry (asks_for (word 2) (word 3) (word 1))

abbrev begun_before : World
begun_before = Party 0 1 (Http begins) first_pair ∷ []

begun_before_stands : Stands strict begun_before
unfolding rp_prepared rp_answer
begun_before_stands = begun_stands strict 0 first_pair.reply (omega arith) refl refl

abbrev page_pair : OpPair
page_pair = op.pair_of (op.entry_at 1000 5 (op_ask.Authorize (Grant (shop_wish state_text nonce_text)) None None)) op.login_page

page_is_asked : op_prepared strict (authorizes_with state_text nonce_text no_jar) ≡ page_pair.entry.ask
unfolding op_prepared request_params_on_literals judgement errors asking_of parameter_words claims_of spellings
page_is_asked = refl

page_is_answered : op_answer strict [] page_pair.entry ≡ page_pair.reply
unfolding op_answer needed needed_scopes joined scopes_with_any no_clients
page_is_answered = refl

abbrev shown_before : World
shown_before = Provider 1 (authorizes_with state_text nonce_text no_jar) page_pair ∷ begun_before

shown_before_stands : Stands strict shown_before
shown_before_stands = provider_stands strict begun_before 1 (authorizes_with state_text nonce_text no_jar) page_pair begun_before_stands (record {
  asked = page_is_asked;
  entry = legal_entry IsOpAsk 5 page_pair.entry.ask refl (wish_is_value state_text nonce_text (IsUtf8-are_ascii state_text refl) (IsUtf8-are_ascii nonce_text refl), tt, tt);
  after_own = omega arith;
  after_all = omega arith;
  answered = page_is_answered;
})

abbrev sign_in_pair : OpPair
sign_in_pair = op.pair_of op.login_entry op.consent_page

sign_in_is_asked : op_prepared strict logs_in ≡ op.login_entry.ask
unfolding op_prepared request_params_on_literals base64url_on_literals hmac_on_literals proof_of iterates_of iterate_of
sign_in_is_asked = refl

sign_in_is_answered : op_answer strict (page_pair ∷ []) op.login_entry ≡ op.consent_page
unfolding op_answer needed needed_scopes joined scopes_with_any no_clients
sign_in_is_answered = refl

abbrev before : World
before = Provider 1 logs_in sign_in_pair ∷ shown_before

before_stands : Stands strict before
before_stands = provider_stands strict shown_before 1 logs_in sign_in_pair shown_before_stands (record {
  asked = sign_in_is_asked;
  entry = consent_legal.0.1;
  after_own = omega arith;
  after_all = omega arith;
  answered = sign_in_is_answered;
})

-- ---- the login begins

abbrev second_state : Text
second_state = codes "AAAAAAAAAAAAAAAAAAAAAAAAAAAAAAAAAAAAAAAAAA4"

abbrev second_nonce : Text
second_nonce = codes "AAAAAAAAAAAAAAAAAAAAAAAAAAAAAAAAAAAAAAAAAA8"

abbrev begins_again : Ask
begins_again = got (codes "/login") [] (Some (word 1))

abbrev second_pair : RpPair
second_pair = pair_of (entry_at 1000 13 (rp_ask.Begin (Some (word 1)))) (asks_for (word 14) (word 15) (word 1))

second_is_asked : rp_prepared strict 0 begins_again ≡ second_pair.entry.ask
unfolding rp_prepared
second_is_asked = refl

second_is_answered : rp_answer (setup_at (own_site strict) 0) (first_pair ∷ []) second_pair.entry ≡ second_pair.reply
unfolding rp_answer
second_is_answered = refl

abbrev asks : Place
asks = Party 0 1 (Http begins_again) second_pair

abbrev asked : World
asked = asks ∷ before

asked_stands : Stands strict asked
asked_stands = party_stands strict before 0 1 (Http begins_again) second_pair before_stands (record {
  known = omega arith;
  asked = second_is_asked;
  entry = legal_entry IsRpAsk 13 second_pair.entry.ask refl (drawn_word (word 1) refl refl);
  after_own = omega arith;
  after_all = omega arith;
  answered = second_is_answered;
})

-- ---- its consent page comes at once

abbrev wish : Wish
wish = shop_wish second_state second_nonce

abbrev authorizes : Ask
authorizes = authorizes_with second_state second_nonce second_jar

abbrev consent_pair : OpPair
consent_pair = op.pair_of (op.entry_at 1000 17 (op_ask.Authorize (Grant wish) (Some (word 5)) (Some (word 9)))) (ConsentPage (word 18) (word 5) None (codes "shop-client") profile_scopes)

authorize_is_asked : op_prepared strict authorizes ≡ consent_pair.entry.ask
unfolding op_prepared request_params_on_literals judgement errors asking_of parameter_words claims_of spellings
authorize_is_asked = refl

authorize_is_answered : op_answer strict (op_past asked) consent_pair.entry ≡ consent_pair.reply
unfolding op_answer needed needed_scopes joined scopes_with_any no_clients
authorize_is_answered = refl

abbrev shows : Place
shows = Provider 1 authorizes consent_pair

abbrev shown : World
shown = shows ∷ asked

shown_stands : Stands strict shown
shown_stands = provider_stands strict asked 1 authorizes consent_pair asked_stands (record {
  asked = authorize_is_asked;
  entry = legal_entry IsOpAsk 17 consent_pair.entry.ask refl
      (wish_is_value second_state second_nonce (IsUtf8-are_ascii second_state refl) (IsUtf8-are_ascii second_nonce refl), drawn_word (word 5) refl refl, drawn_word (word 9) refl refl);
  after_own = omega arith;
  after_all = omega arith;
  answered = authorize_is_answered;
})

follows : called_for strict alice second_jar [] (reply_at asks) ≡ Some (sent 1 to.Provider authorizes)
unfolding location_of followed login_location request_params_on_literals base64url_on_literals digits
follows = refl

shown_honestly : IsHonestBut (Some recent_sign_in) strict alice shown (shows ∷ asks ∷ [])
shown_honestly =
    went_on asked asks [] shows
    (begun before asks (record { jar = party_jar; asked = refl; room = λ kept. refl }))
    (record { jar = second_jar; done = sent 1 to.Provider authorizes; called = follows; asked = refl; cookies = λ kept. tt; in_time = tt; alive = tt; room = λ kept. refl })

-- ---- alice consents at 1061

abbrev consents : Ask
consents = posted (codes "/consent") (codes "turn=AAAAAAAAAAAAAAAAAAAAAAAAAAAAAAAAAAAAAAAAABI&agree=yes") (Some (word 5)) (Some (word 9))

abbrev late_pair : OpPair
late_pair = op.pair_of (op.entry_at 1061 21 (op_ask.Consent (Some (word 18)) true (Some (word 5)) (Some (word 9)))) (Refused (refusal_of wish LoginRequired) None)

late_is_asked : op_prepared strict consents ≡ late_pair.entry.ask
unfolding op_prepared request_params_on_literals base64url_on_literals
late_is_asked = refl

late_is_answered : op_answer strict (op_past shown) late_pair.entry ≡ late_pair.reply
unfolding op_answer needed needed_scopes joined scopes_with_any no_clients
late_is_answered = refl

abbrev fails : Place
fails = Provider 1 consents late_pair

stands : Stands strict (fails ∷ shown)
stands = provider_stands strict shown 1 consents late_pair shown_stands (record {
  asked = late_is_asked;
  entry = entry_then IsOpAsk 1061 21 late_pair.entry.ask (omega arith) refl (drawn_word (word 18) refl refl, drawn_word (word 5) refl refl, drawn_word (word 9) refl refl);
  after_own = omega arith;
  after_all = omega arith;
  answered = late_is_answered;
})

says_yes : called_for strict alice second_jar (asks ∷ []) (reply_at shows) ≡ Some (sent 1 to.Provider consents)
unfolding consent_posted request_params_on_literals base64url_on_literals
says_yes = refl

session_in_time : (session : SessionRow) → session_of (op_past shown) (Some (word 9)) ≡ Some session → SessionLives (Some recent_sign_in) 1061 session
unfolding no_clients
session_in_time = of_row (SessionLives (Some recent_sign_in) 1061) (session_of (op_past shown) (Some (word 9))) (λ kept. refl)

turn_in_time : (row : TurnRow) → turn_of (op_past shown) (Some (word 18)) ≡ Some row → IsConsentInTime (Some recent_sign_in) (op_past shown) 1061 row
turn_in_time =
    of_row (IsConsentInTime (Some recent_sign_in) (op_past shown) 1061) (turn_of (op_past shown) (Some (word 18)))
    (record { turn = λ kept. refl; session = session_in_time; recent = λ session there kept. absurd (kept refl) })

may : MayLogInBut (Some recent_sign_in) strict alice
unfolding parameter_words
may =
    let there = alice_may (Some recent_sign_in) in
    record { party = omega arith; may_ask = λ kept. refl; id_text = there.id_text; password_text = there.password_text; right = there.right }

pub late_consent_fails : FailsWithout recent_sign_in
late_consent_fails =
    fails_there strict recent_sign_in alice shown fails shows (asks ∷ []) strict_registry stands (are_distinct (drawn (fails ∷ shown)) refl) may shown_honestly
    (record {
      jar = second_jar;
      done = sent 1 to.Provider consents;
      called = says_yes;
      asked = refl;
      cookies = λ kept. refl;
      in_time = turn_in_time;
      alive = tt;
      room = λ kept. refl;
    })
    refl
