-- `party_may_ask` cannot be left out: the `prompt` of the news is `none`, nobody has signed in with browser 1, and so the provider
-- refuses the authorization request where it would show its login page.
use Rattle.std.proofs.Common.{◌≡◌, ◌++◌, true, [], ◌∷◌, Some, None, codes, refl, arith}
use Rattle.sso_base.specs.declared.history.Entry.{Entry}
use Rattle.sso_base.specs.declared.http.Ask.{Ask}
use Rattle.sso_base.proofs.OnLiterals.{base64url_on_literals}
use Rattle.oidc_words.specs.declared.errors.AuthError.TheVariants.{LoginRequired}
use Rattle.oidc_words.specs.Types.{spellings}
use Rattle.oidc_words.specs.Words.{parameter_words}
use Rattle.request_params.proofs.OnLiterals.{request_params_on_literals}
use Rattle.auth_request.specs.ClaimsParameter.{claims_of}
use Rattle.auth_request.specs.Parameters.{asking_of}
use Rattle.auth_request.specs.Judgement.{errors, judgement}
use Rattle.auth_request.specs.declared.wish.Verdict.TheVariants.{Grant}
use Rattle.user_interaction.specs.Need.{needed}
use Rattle.login_request.specs.Request.{login_location}
use Rattle.op_exchange.specs.declared.ask.OpAsk.{OpAsk}
use Rattle.op_exchange.specs.declared.ask.OpAsk.TheVariants.{Authorize}
use Rattle.op_exchange.specs.declared.reply.OpReply.{OpReply}
use Rattle.op_exchange.specs.declared.reply.OpReply.TheVariants.{Refused}
use Rattle.op_exchange.specs.Values.{IsOpAsk}
use Rattle.op_request.specs.Prepared.{prepared as op_prepared}
use Rattle.op_answer.specs.Answering.{op_answer}
use Rattle.op_answer.specs.Replies.{refusal_of}
use Rattle.op_answer.proofs.FirstLogin as op
use Rattle.rp_exchange.specs.declared.reply.RpReply.{RpReply}
use Rattle.rp_exchange.specs.declared.reply.RpReply.TheVariants as rp
use Rattle.rp_request.specs.Prepared.{prepared as rp_prepared}
use Rattle.rp_answer.specs.Answering.{rp_answer}
use Rattle.rp_answer.proofs.Sample.{word, op as provider, news_client, pair_of}
use Rattle.rp_answer.proofs.FirstVisit.{begin_entry}
use Rattle.sso_places.specs.declared.types.To.TheVariants as to
use Rattle.sso_places.specs.declared.types.WorldAsk.TheVariants.{Http}
use Rattle.sso_places.specs.Cookies.{no_jar}
use Rattle.sso_places.specs.World.{Place, Provider, Party, drawn, reply_at}
use Rattle.sso_places.proofs.SmallSite.{are_distinct, legal_entry}
use Rattle.sso_places.proofs.LoginByCode.{begins, got}
use Rattle.web_requests.specs.Sending.{sent}
use Rattle.web_requests.specs.Locations.{location_of}
use Rattle.web_requests.specs.Following.{followed}
use Rattle.honest_places.specs.Conditions.{party_may_ask}
use Rattle.honest_places.specs.Login.{called_for, begun}
use Rattle.honest_worlds.specs.Needed.{FailsWithout}
use Rattle.honest_worlds.proofs.Building.{begun_stands, fails_there}
use Rattle.honest_worlds.proofs.Growing.{Stands, provider_stands}
use Rattle.honest_worlds.proofs.FirstPlaces.{alice_may}
use Rattle.honest_worlds.proofs.NewsRequest.{reader, news_query, news_wish, wish_is_value}
use Rattle.honest_worlds.proofs.StrictSite.{strict, strict_registry, silent_news}

-- ---- the login begins

abbrev sends_on : RpReply
sends_on = rp.Ask (login_location news_client silent_news provider (word 2) (word 3)) (word 1)

abbrev asks : Place
asks = Party 1 1 (Http begins) (pair_of begin_entry sends_on)

asks_stands : Stands strict (asks ∷ [])
unfolding rp_prepared rp_answer
asks_stands = begun_stands strict 1 sends_on (omega arith) refl refl

-- ---- the provider may show no page

abbrev authorizes : Ask
authorizes = got (codes "/authorize") (news_query ++ codes "&prompt=none") None

abbrev authorize_entry : Entry OpAsk
authorize_entry = op.entry_at 1000 5 (Authorize (Grant (news_wish true)) None None)

abbrev refused : OpReply
refused = Refused (refusal_of (news_wish true) LoginRequired) None

authorize_is_asked : op_prepared strict authorizes ≡ authorize_entry.ask
unfolding op_prepared request_params_on_literals judgement errors asking_of parameter_words claims_of spellings
authorize_is_asked = refl

authorize_is_answered : op_answer strict [] authorize_entry ≡ refused
unfolding op_answer needed
authorize_is_answered = refl

abbrev fails : Place
fails = Provider 1 authorizes (op.pair_of authorize_entry refused)

stands : Stands strict (fails ∷ asks ∷ [])
stands = provider_stands strict (asks ∷ []) 1 authorizes (op.pair_of authorize_entry refused) asks_stands (record {
  asked = authorize_is_asked;
  entry = legal_entry IsOpAsk 5 authorize_entry.ask refl (wish_is_value true, tt, tt);
  after_own = omega arith;
  after_all = omega arith;
  answered = authorize_is_answered;
})

follows : called_for strict reader no_jar [] (reply_at asks) ≡ Some (sent 1 to.Provider authorizes)
unfolding location_of followed login_location request_params_on_literals base64url_on_literals
follows = refl

pub silent_party_fails : FailsWithout party_may_ask
silent_party_fails =
    fails_there strict party_may_ask reader (asks ∷ []) fails asks [] strict_registry stands (are_distinct (drawn (fails ∷ asks ∷ [])) refl)
    (let may = alice_may (Some party_may_ask) in
    record { party = omega arith; may_ask = λ kept. absurd (kept refl); id_text = may.id_text; password_text = may.password_text; right = may.right })
    (begun [] asks (record { jar = no_jar; asked = refl; room = λ kept. refl }))
    (record { jar = no_jar; done = sent 1 to.Provider authorizes; called = follows; asked = refl; cookies = λ kept. tt; in_time = tt; alive = tt; room = λ kept. refl })
    refl
