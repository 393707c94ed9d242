-- `token_in_time` cannot be left out: browser 1 begins a login at the news, which gets an ID Token with the authorization response, and
-- brings the response six minutes after it was issued. The token is over, give or take a minute, and the login is refused.
use Rattle.std.proofs.Common.{◌≡◌, ◌<◌, false, [], ◌∷◌, length, Some, None, Ok, codes, refl, arith, ap}
use Rattle.sso_base.specs.Words.{Text, word_text}
use Rattle.sso_base.specs.declared.history.Entry.{Entry}
use Rattle.sso_base.specs.declared.http.Ask.{Ask}
use Rattle.sso_base.proofs.OnLiterals.{base64url_on_literals}
use Rattle.sso_base.proofs.WordUtf8.{IsUtf8-word_text}
use Rattle.oidc_words.specs.Claims.{scopes_with_any}
use Rattle.oidc_words.specs.Scopes.{joined}
use Rattle.oidc_words.specs.Types.{spellings}
use Rattle.oidc_words.specs.Words.{parameter_words}
use Rattle.client_registry.specs.ClientSets.{no_clients}
use Rattle.request_params.proofs.OnLiterals.{request_params_on_literals}
use Rattle.auth_request.specs.ClaimsParameter.{claims_of}
use Rattle.auth_request.specs.Parameters.{asking_of}
use Rattle.auth_request.specs.Judgement.{errors, judgement}
use Rattle.auth_request.specs.declared.wish.Verdict.TheVariants.{Grant}
use Rattle.auth_answer.specs.declared.heard.Heard.{Heard}
use Rattle.auth_answer.specs.Reading.{IsHeard}
use Rattle.user_interaction.specs.Need.{needed, needed_scopes}
use Rattle.id_token.specs.declared.claims.IdClaims.{IdClaims}
use Rattle.id_token.specs.declared.no.IdNo.TheVariants.{Expired}
use Rattle.login_request.specs.Request.{login_location}
use Rattle.code_grant.specs.declared.rows.TurnRow.{TurnRow}
use Rattle.op_exchange.specs.declared.ask.OpAsk.{OpAsk}
use Rattle.op_exchange.specs.declared.ask.OpAsk.TheVariants as op_ask
use Rattle.op_exchange.specs.declared.reply.OpReply.{OpReply}
use Rattle.op_exchange.specs.declared.reply.OpReply.TheVariants.{Answered}
use Rattle.op_exchange.specs.Values.{IsOpAsk}
use Rattle.op_request.specs.Prepared.{prepared as op_prepared}
use Rattle.op_issue.specs.IdTokens.{id_claims, issued_id}
use Rattle.op_issue.specs.Issued.{issued}
use Rattle.op_issue.specs.Issuing.{MayIssue}
use Rattle.op_answer.specs.Turns.{turn_of}
use Rattle.op_answer.specs.Answering.{op_answer}
use Rattle.op_answer.proofs.FirstLogin as op
use Rattle.rp_exchange.specs.declared.ask.RpAsk.{RpAsk}
use Rattle.rp_exchange.specs.declared.ask.RpAsk.TheVariants as rp_ask
use Rattle.rp_exchange.specs.declared.no.RpNo.TheVariants as no
use Rattle.rp_exchange.specs.declared.reply.RpReply.{RpReply}
use Rattle.rp_exchange.specs.declared.reply.RpReply.TheVariants.{Refused}
use Rattle.rp_exchange.specs.Values.{IsRpAsk, IsIdValue}
use Rattle.rp_exchange.proofs.Sample.{front}
use Rattle.rp_request.specs.Prepared.{prepared as rp_prepared}
use Rattle.rp_answer.specs.Answering.{rp_answer}
use Rattle.rp_answer.specs.Logins.{login_of}
use Rattle.rp_answer.proofs.Sample.{word, words, entry_at, pair_of}
use Rattle.rp_answer.proofs.FirstVisit.{begin_entry}
use Rattle.rp_answer.proofs.FrontLogin.{asked_front, past_front}
use Rattle.sso_places.specs.declared.types.To.TheVariants as to
use Rattle.sso_places.specs.declared.types.WorldAsk.TheVariants.{Http}
use Rattle.sso_places.specs.declared.types.WorldReply.TheVariants.{Provider as ProviderReply}
use Rattle.sso_places.specs.Cookies.{no_jar}
use Rattle.sso_places.specs.Site.{setup_at}
use Rattle.sso_places.specs.World.{Place, Provider, Party, World, op_past, rp_past, drawn, reply_at}
use Rattle.sso_places.proofs.SmallSite.{configuration, site, registry, drawn_word, are_distinct, legal_entry}
use Rattle.sso_places.proofs.LoginByCode.{begins, logs_in, got, login_is_asked, consent_legal, state_text}
use Rattle.web_requests.specs.Sending.{sent}
use Rattle.web_requests.specs.Locations.{location_of}
use Rattle.web_requests.specs.Following.{followed, reply_followed}
use Rattle.web_requests.specs.Posting.{login_posted}
use Rattle.web_requests.specs.Asked.{AsksParty}
use Rattle.honest_places.specs.Conditions.{token_in_time}
use Rattle.honest_places.specs.InTime.{IsResponseInTime}
use Rattle.honest_places.specs.Login.{MayLogInBut, called_for, IsHonestBut, begun, went_on}
use Rattle.honest_party.proofs.Followed.{PartysWish, issued_utf8, answer_arrives}
use Rattle.honest_worlds.specs.Needed.{FailsWithout}
use Rattle.honest_worlds.proofs.Building.{entry_then, TurnLives, LoginLives, of_row, begun_stands, fails_there}
use Rattle.honest_worlds.proofs.Growing.{Stands, provider_stands, party_stands}
use Rattle.honest_worlds.proofs.FirstPlaces.{alice_may, first_jar, party_jar}
use Rattle.honest_worlds.proofs.NewsRequest.{reader, news_query, news_wish, wish_is_value}
use Rattle.honest_worlds.proofs.ClaimValues.{claims_value}
use Rattle.honest_worlds.proofs.NoLogout.{not_named}

reader_may : MayLogInBut (Some token_in_time) configuration reader
unfolding parameter_words
reader_may =
    let may = alice_may (Some token_in_time) in
    record { party = omega arith; may_ask = λ kept. refl; id_text = may.id_text; password_text = may.password_text; right = may.right }

-- ---- the login begins

abbrev asks : Place
asks = Party 1 1 (Http begins) (pair_of begin_entry asked_front)

abbrev asked : World
asked = asks ∷ []

asked_stands : Stands configuration asked
unfolding rp_prepared rp_answer
asked_stands = begun_stands configuration 1 asked_front (omega arith) refl refl

-- ---- the provider shows its login page

abbrev authorizes : Ask
authorizes = got (codes "/authorize") news_query None

abbrev authorize_entry : Entry OpAsk
authorize_entry = op.entry_at 1000 5 (op_ask.Authorize (Grant (news_wish false)) None None)

authorize_is_asked : op_prepared configuration authorizes ≡ authorize_entry.ask
unfolding op_prepared request_params_on_literals judgement errors asking_of parameter_words claims_of spellings
authorize_is_asked = refl

authorize_is_answered : op_answer configuration [] authorize_entry ≡ op.login_page
unfolding op_answer needed needed_scopes joined scopes_with_any no_clients
authorize_is_answered = refl

abbrev shows : Place
shows = Provider 1 authorizes (op.pair_of authorize_entry op.login_page)

abbrev shown : World
shown = shows ∷ asked

shown_stands : Stands configuration shown
shown_stands = provider_stands configuration asked 1 authorizes (op.pair_of authorize_entry op.login_page) asked_stands (record {
  asked = authorize_is_asked;
  entry = legal_entry IsOpAsk 5 authorize_entry.ask refl (wish_is_value false, tt, tt);
  after_own = omega arith;
  after_all = omega arith;
  answered = authorize_is_answered;
})

follows : called_for configuration reader no_jar [] (reply_at asks) ≡ Some (sent 1 to.Provider authorizes)
unfolding location_of followed login_location request_params_on_literals base64url_on_literals
follows = refl

-- ---- alice signs in, and the provider answers

abbrev front_answer : OpReply
front_answer = Answered (issued configuration (news_wish false) op.signed_alice 1000 (words 9)) (Some (word 9))

login_is_answered : op_answer configuration (op.pair_of authorize_entry op.login_page ∷ []) op.login_entry ≡ front_answer
unfolding op_answer needed needed_scopes joined scopes_with_any no_clients
login_is_answered = refl

abbrev answers : Place
answers = Provider 1 logs_in (op.pair_of op.login_entry front_answer)

abbrev answered : World
answered = answers ∷ shown

answered_stands : Stands configuration answered
answered_stands = provider_stands configuration shown 1 logs_in (op.pair_of op.login_entry front_answer) shown_stands (record {
  asked = login_is_asked;
  entry = consent_legal.0.1;
  after_own = omega arith;
  after_all = omega arith;
  answered = login_is_answered;
})

fills_in : called_for configuration reader first_jar asked (reply_at shows) ≡ Some (sent 1 to.Provider logs_in)
unfolding login_posted request_params_on_literals base64url_on_literals
fills_in = refl

turn_in_time : (row : TurnRow) → turn_of (op_past shown) (Some (word 6)) ≡ Some row → TurnLives (Some token_in_time) 1000 row
turn_in_time = of_row (TurnLives (Some token_in_time) 1000) (turn_of (op_past shown) (Some (word 6))) (λ kept. refl)

answered_honestly : IsHonestBut (Some token_in_time) configuration reader answered answered
answered_honestly =
    went_on shown shows asked answers
    (went_on asked asks [] shows
    (begun [] asks (record { jar = no_jar; asked = refl; room = λ kept. refl }))
    (record { jar = no_jar; done = sent 1 to.Provider authorizes; called = follows; asked = refl; cookies = λ kept. tt; in_time = tt; alive = tt; room = λ kept. refl }))
    (record { jar = first_jar; done = sent 1 to.Provider logs_in; called = fills_in; asked = refl; cookies = λ kept. refl; in_time = turn_in_time; alive = tt; room = λ kept. refl })

-- ---- the browser brings the answer, at 1360

abbrev id : Text
id = issued_id configuration (news_wish false) op.signed_alice 1000 (Some (word 12)) None

abbrev claims : IdClaims
claims = id_claims configuration (news_wish false) op.signed_alice 1000 (Some (word 12)) None

abbrev heard : Heard
heard = record { state = Some (word 2); error = None; code = None; access = Some (word_text (word 12)); id = Some id }

abbrev late_entry : Entry RpAsk
late_entry = entry_at 1360 13 (rp_ask.Callback (Ok heard) (Some (Ok claims)) (Some (word 1)))

abbrev refused : RpReply
refused = Refused (no.Id (Expired 1300))

may_issue : MayIssue configuration (news_wish false) op.signed_alice 1000
may_issue = record {
  registry = registry;
  client = omega arith;
  user = omega arith;
  nonce = refl;
  sid = drawn_word (word 10) refl refl;
  auth_time = omega arith;
  moment = omega arith;
}

state_is : state_text ≡ word_text (word 2)
unfolding base64url_on_literals
state_is = refl

known : 1 < length configuration.parties
known = omega arith

own_wish : PartysWish configuration 1 registry known (news_wish false) (word 2)
own_wish = record { client = refl; redirect = refl; types = refl; state = ap (λ (t : Text). Some t) state_is; word = drawn_word (word 2) refl refl }

arrives : AsksParty configuration 1 1 (reply_followed configuration 1 (ProviderReply front_answer) party_jar) late_entry.ask
arrives = answer_arrives configuration 1 registry known (news_wish false) op.signed_alice 1000 (words 9) (word 2) (Some (word 9)) 1 party_jar own_wish may_issue (wish_is_value false)

abbrev brings : Ask
brings = arrives.request

late_is_answered : rp_answer (setup_at site 1) past_front late_entry ≡ refused
unfolding rp_answer id_claims
late_is_answered = refl

claims_are_values : IsIdValue claims
claims_are_values = claims_value configuration (news_wish false) (Some (word 12)) None may_issue (wish_is_value false) refl

heard_is_value : IsHeard heard
heard_is_value = record {
  state = drawn_word (word 2) refl refl;
  code = tt;
  access = IsUtf8-word_text (word 12);
  id = issued_utf8 configuration (news_wish false) op.signed_alice 1000 (Some (word 12)) None;
}

abbrev fails : Place
fails = Party 1 1 (Http brings) (pair_of late_entry refused)

stands : Stands configuration (fails ∷ answered)
stands = party_stands configuration answered 1 1 (Http brings) (pair_of late_entry refused) answered_stands (record {
  known = known;
  asked = arrives.read;
  entry = entry_then IsRpAsk 1360 13 late_entry.ask (omega arith) refl (heard_is_value, claims_are_values, drawn_word (word 1) refl refl);
  after_own = omega arith;
  after_all = omega arith;
  answered = late_is_answered;
})

login_in_time : IsResponseInTime (Some token_in_time) front (rp_past 1 answered) 1360 late_entry.ask
login_in_time = record {
  login = of_row (LoginLives (Some token_in_time) 1360) (login_of (rp_past 1 answered) (Some (word 2))) (λ kept. refl);
  token = λ came is kept. absurd (kept refl);
}

pub late_token_fails : FailsWithout token_in_time
late_token_fails =
    fails_there configuration token_in_time reader answered fails answers shown registry stands (are_distinct (drawn (fails ∷ answered)) refl) reader_may answered_honestly
    (record {
      jar = party_jar;
      done = sent 1 (to.Party 1) brings;
      called = arrives.is;
      asked = refl;
      cookies = λ kept. refl;
      in_time = login_in_time;
      alive = λ sid is kept. not_named (rp_past 1 answered) sid (refl, tt);
      room = λ kept. refl;
    })
    refl
