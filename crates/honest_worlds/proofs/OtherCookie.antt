-- `last_cookies` cannot be left out: the browser posts the login form with the shop's cookie in place of the provider's, and gets an
-- error page.
use Rattle.std.proofs.Common.{◌≡◌, ◌∷◌, Some, None, refl, arith}
use Rattle.sso_base.specs.declared.history.Entry.{Entry}
use Rattle.sso_base.proofs.OnLiterals.{base64url_on_literals}
use Rattle.hmac256.specs.Hmac.{proof_of, iterates_of, iterate_of}
use Rattle.hmac256.proofs.OnLiterals.{hmac_on_literals}
use Rattle.request_params.proofs.OnLiterals.{request_params_on_literals}
use Rattle.auth_request.specs.declared.wish.PageNo.TheVariants.{Browser}
use Rattle.op_exchange.specs.declared.ask.OpAsk.{OpAsk}
use Rattle.op_exchange.specs.declared.ask.OpAsk.TheVariants.{Login}
use Rattle.op_exchange.specs.declared.reply.OpReply.{OpReply}
use Rattle.op_exchange.specs.declared.reply.OpReply.TheVariants.{ErrorPage}
use Rattle.op_exchange.specs.Values.{IsOpAsk}
use Rattle.op_request.specs.Prepared.{prepared}
use Rattle.op_answer.specs.Answering.{op_answer}
use Rattle.op_answer.proofs.FirstLogin.{entry_at, pair_of}
use Rattle.rp_answer.proofs.Sample.{word}
use Rattle.sso_places.specs.declared.types.To.TheVariants as to
use Rattle.sso_places.specs.World.{Place, Provider, drawn}
use Rattle.sso_places.proofs.SmallSite.{configuration, registry, drawn_word, are_distinct, legal_entry}
use Rattle.sso_places.proofs.LoginByCode.{past_authorize}
use Rattle.web_requests.specs.Sending.{sent}
use Rattle.honest_places.specs.Conditions.{last_cookies}
use Rattle.honest_worlds.specs.Needed.{FailsWithout}
use Rattle.honest_worlds.proofs.Building.{fails_there}
use Rattle.honest_worlds.proofs.Growing.{Stands, provider_stands}
use Rattle.honest_worlds.proofs.FirstPlaces.{alice, alice_may, shows, asked, shown, shown_stands, party_jar, logs_in_with, fills_in, turn_in_time, shown_honestly}

abbrev mixed_entry : Entry OpAsk
mixed_entry = entry_at 1000 9 (Login (Some (word 6)) (Some 0) (Some (word 1)) None)

abbrev error_page : OpReply
error_page = ErrorPage Browser

mixed_is_asked : prepared configuration (logs_in_with party_jar) ≡ mixed_entry.ask
unfolding prepared request_params_on_literals base64url_on_literals hmac_on_literals proof_of iterates_of iterate_of
mixed_is_asked = refl

mixed_is_answered : op_answer configuration past_authorize mixed_entry ≡ error_page
unfolding op_answer
mixed_is_answered = refl

abbrev fails : Place
fails = Provider 1 (logs_in_with party_jar) (pair_of mixed_entry error_page)

stands : Stands configuration (fails ∷ shown)
stands = provider_stands configuration shown 1 (logs_in_with party_jar) (pair_of mixed_entry error_page) shown_stands (record {
  asked = mixed_is_asked;
  entry = legal_entry IsOpAsk 9 mixed_entry.ask refl (drawn_word (word 6) refl refl, omega arith, drawn_word (word 1) refl refl, tt);
  after_own = omega arith;
  after_all = omega arith;
  answered = mixed_is_answered;
})

pub other_cookie_fails : FailsWithout last_cookies
other_cookie_fails =
    fails_there configuration last_cookies alice shown fails shows asked registry stands (are_distinct (drawn (fails ∷ shown)) refl) (alice_may (Some last_cookies))
    (shown_honestly (Some last_cookies) alice.password)
    (record {
      jar = party_jar;
      done = sent 1 to.Provider (logs_in_with party_jar);
      called = fills_in party_jar;
      asked = refl;
      cookies = λ kept. absurd (kept refl);
      in_time = turn_in_time (Some last_cookies);
      alive = tt;
      room = λ kept. refl;
    })
    refl
