-- `own_words` cannot be left out: somebody else got hold of the shop's token request and sends it first. So the code is spent, and the
-- shop's own request is refused.
use Rattle.std.proofs.Common.{◌≡◌, ◌∷◌, Some, refl, arith}
use Rattle.sso_base.specs.Words.{word_of_text}
use Rattle.sso_base.specs.declared.history.Entry.{Entry}
use Rattle.token_endpoint.specs.declared.error.TokenError.TheVariants.{InvalidGrant}
use Rattle.code_grant.specs.declared.rows.CodeRow.{CodeRow}
use Rattle.op_exchange.specs.declared.ask.OpAsk.{OpAsk}
use Rattle.op_exchange.specs.declared.reply.OpReply.{OpReply}
use Rattle.op_exchange.specs.declared.reply.OpReply.TheVariants.{TokenRefused}
use Rattle.op_exchange.specs.Values.{IsOpAsk}
use Rattle.op_answer.specs.Codes.{code_of}
use Rattle.op_answer.specs.Answering.{op_answer}
use Rattle.op_answer.proofs.FirstLogin.{entry_at, pair_of}
use Rattle.sso_places.specs.declared.types.To.TheVariants as to
use Rattle.sso_places.specs.World.{Place, Provider, World, op_past, drawn}
use Rattle.sso_places.proofs.SmallSite.{configuration, registry, are_distinct, legal_entry}
use Rattle.sso_places.proofs.LoginByCode.{past_consent, redeems, code_text, token_entry, token_is_asked, code_is}
use Rattle.web_requests.specs.Sending.{sent}
use Rattle.honest_places.specs.Conditions.{own_words}
use Rattle.honest_places.specs.Login.{waited}
use Rattle.honest_worlds.specs.Needed.{FailsWithout}
use Rattle.honest_worlds.proofs.Building.{CodeLives, of_row, fails_there}
use Rattle.honest_worlds.proofs.Growing.{Stands, provider_stands}
use Rattle.honest_worlds.proofs.FirstPlaces.{alice, alice_may, grant_asks, exchanges, answered, exchanged, second_jar, carries, exchanged_honestly}
use Rattle.honest_worlds.proofs.Redeeming.{tokens, redeems_from, redeemed, redeemed_stands}

-- ---- the stranger, who is browser 2, gets the tokens

abbrev robbed : World
robbed = redeemed 2

-- ---- the shop

abbrev second_entry : Entry OpAsk
second_entry = entry_at 1000 25 token_entry.ask

abbrev refused : OpReply
refused = TokenRefused InvalidGrant

abbrev fails : Place
fails = Provider 0 redeems (pair_of second_entry refused)

second_is_answered : op_answer configuration (pair_of token_entry tokens ∷ past_consent) second_entry ≡ refused
unfolding op_answer
second_is_answered = rw code_is refl

stands : Stands configuration (fails ∷ robbed)
stands = provider_stands configuration robbed 0 redeems (pair_of second_entry refused) (redeemed_stands 2) (record {
  asked = token_is_asked;
  entry = legal_entry IsOpAsk 25 second_entry.ask refl grant_asks;
  after_own = omega arith;
  after_all = omega arith;
  answered = second_is_answered;
})

in_time : (row : CodeRow) → code_of (op_past robbed) (word_of_text code_text) ≡ Some row → CodeLives (Some own_words) 1000 row
in_time = of_row (CodeLives (Some own_words) 1000) (code_of (op_past robbed) (word_of_text code_text)) (rw code_is (λ kept. refl))

pub spent_code_fails : FailsWithout own_words
spent_code_fails =
    fails_there configuration own_words alice robbed fails exchanges answered registry stands (are_distinct (drawn (fails ∷ robbed)) refl) (alice_may (Some own_words))
    (waited exchanged exchanged (redeems_from 2) (exchanged_honestly (Some own_words)) (λ kept. absurd (kept refl)))
    (record {
      jar = second_jar;
      done = sent 0 to.Provider redeems;
      called = carries;
      asked = refl;
      cookies = λ kept. refl;
      in_time = in_time;
      alive = tt;
      room = λ kept. refl;
    })
    refl
