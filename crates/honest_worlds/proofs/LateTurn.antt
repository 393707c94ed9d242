-- `within_lives` cannot be left out: alice fills in the login form ten minutes after it was shown, when its turn is over, and gets an
-- error page.
use Rattle.std.proofs.Common.{◌≡◌, ◌∷◌, Some, refl, arith}
use Rattle.sso_base.specs.declared.history.Entry.{Entry}
use Rattle.auth_request.specs.declared.wish.PageNo.TheVariants.{Turn}
use Rattle.op_exchange.specs.declared.ask.OpAsk.{OpAsk}
use Rattle.op_exchange.specs.declared.reply.OpReply.{OpReply}
use Rattle.op_exchange.specs.declared.reply.OpReply.TheVariants.{ErrorPage}
use Rattle.op_exchange.specs.Values.{IsOpAsk}
use Rattle.op_answer.specs.Answering.{op_answer}
use Rattle.op_answer.proofs.FirstLogin.{entry_at, pair_of, login_entry}
use Rattle.rp_answer.proofs.Sample.{word}
use Rattle.sso_places.specs.declared.types.To.TheVariants as to
use Rattle.sso_places.specs.World.{Place, Provider, drawn}
use Rattle.sso_places.proofs.SmallSite.{configuration, registry, drawn_word, are_distinct}
use Rattle.sso_places.proofs.LoginByCode.{past_authorize, logs_in, login_is_asked}
use Rattle.web_requests.specs.Sending.{sent}
use Rattle.honest_places.specs.Conditions.{within_lives}
use Rattle.honest_worlds.specs.Needed.{FailsWithout}
use Rattle.honest_worlds.proofs.Building.{entry_then, fails_there}
use Rattle.honest_worlds.proofs.Growing.{Stands, provider_stands}
use Rattle.honest_worlds.proofs.FirstPlaces.{alice, alice_may, shows, asked, shown, shown_stands, first_jar, fills_in, shown_honestly}

abbrev late_entry : Entry OpAsk
late_entry = entry_at 1600 9 login_entry.ask

abbrev error_page : OpReply
error_page = ErrorPage Turn

late_is_answered : op_answer configuration past_authorize late_entry ≡ error_page
unfolding op_answer
late_is_answered = refl

abbrev fails : Place
fails = Provider 1 logs_in (pair_of late_entry error_page)

stands : Stands configuration (fails ∷ shown)
stands = provider_stands configuration shown 1 logs_in (pair_of late_entry error_page) shown_stands (record {
  asked = login_is_asked;
  entry = entry_then IsOpAsk 1600 9 late_entry.ask (omega arith) refl (drawn_word (word 6) refl refl, omega arith, drawn_word (word 5) refl refl, tt);
  after_own = omega arith;
  after_all = omega arith;
  answered = late_is_answered;
})

pub late_turn_fails : FailsWithout within_lives
late_turn_fails =
    fails_there configuration within_lives alice shown fails shows asked registry stands (are_distinct (drawn (fails ∷ shown)) refl) (alice_may (Some within_lives))
    (shown_honestly (Some within_lives) alice.password)
    (record {
      jar = first_jar;
      done = sent 1 to.Provider logs_in;
      called = fills_in first_jar;
      asked = refl;
      cookies = λ kept. refl;
      in_time = λ row is kept. absurd (kept refl);
      alive = tt;
      room = λ kept. refl;
    })
    refl
