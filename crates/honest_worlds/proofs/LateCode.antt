-- `code_in_time` cannot be left out: the shop's token request comes two minutes after the code was issued, and is refused.
use Rattle.std.proofs.Common.{◌≡◌, ◌∷◌, Some, refl, arith}
use Rattle.sso_base.specs.declared.history.Entry.{Entry}
use Rattle.token_endpoint.specs.declared.error.TokenError.TheVariants.{InvalidGrant}
use Rattle.op_exchange.specs.declared.ask.OpAsk.{OpAsk}
use Rattle.op_exchange.specs.declared.reply.OpReply.{OpReply}
use Rattle.op_exchange.specs.declared.reply.OpReply.TheVariants.{TokenRefused}
use Rattle.op_exchange.specs.Values.{IsOpAsk}
use Rattle.op_answer.specs.Answering.{op_answer}
use Rattle.op_answer.proofs.FirstLogin.{entry_at, pair_of}
use Rattle.sso_places.specs.declared.types.To.TheVariants as to
use Rattle.sso_places.specs.World.{Place, Provider, drawn}
use Rattle.sso_places.proofs.SmallSite.{configuration, registry, are_distinct}
use Rattle.sso_places.proofs.LoginByCode.{past_consent, redeems, token_entry, token_is_asked, code_is}
use Rattle.web_requests.specs.Sending.{sent}
use Rattle.honest_places.specs.Conditions.{code_in_time}
use Rattle.honest_worlds.specs.Needed.{FailsWithout}
use Rattle.honest_worlds.proofs.Building.{entry_then, fails_there}
use Rattle.honest_worlds.proofs.Growing.{Stands, provider_stands}
use Rattle.honest_worlds.proofs.FirstPlaces.{alice, alice_may, grant_asks, exchanges, answered, exchanged, exchanged_stands, second_jar, carries, exchanged_honestly}

abbrev late_entry : Entry OpAsk
late_entry = entry_at 1120 21 token_entry.ask

abbrev refused : OpReply
refused = TokenRefused InvalidGrant

late_is_answered : op_answer configuration past_consent late_entry ≡ refused
unfolding op_answer
late_is_answered = rw code_is refl

abbrev fails : Place
fails = Provider 0 redeems (pair_of late_entry refused)

stands : Stands configuration (fails ∷ exchanged)
stands = provider_stands configuration exchanged 0 redeems (pair_of late_entry refused) exchanged_stands (record {
  asked = token_is_asked;
  entry = entry_then IsOpAsk 1120 21 late_entry.ask (omega arith) refl grant_asks;
  after_own = omega arith;
  after_all = omega arith;
  answered = late_is_answered;
})

pub late_code_fails : FailsWithout code_in_time
late_code_fails =
    fails_there configuration code_in_time alice exchanged fails exchanges answered registry stands (are_distinct (drawn (fails ∷ exchanged)) refl) (alice_may (Some code_in_time))
    (exchanged_honestly (Some code_in_time))
    (record {
      jar = second_jar;
      done = sent 0 to.Provider redeems;
      called = carries;
      asked = refl;
      cookies = λ kept. refl;
      in_time = λ row is kept. absurd (kept refl);
      alive = tt;
      room = λ kept. refl;
    })
    refl
