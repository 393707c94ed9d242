-- The provider gives the tokens of alice's login for the shop's token request, whoever sends it.
use Rattle.std.proofs.Common.{◌≡◌, ℕ, ◌∷◌, Some, None, refl, arith}
use Rattle.op_exchange.specs.declared.reply.OpReply.{OpReply}
use Rattle.op_exchange.specs.declared.reply.OpReply.TheVariants.{Tokens}
use Rattle.op_exchange.specs.Values.{IsOpAsk}
use Rattle.op_issue.specs.IdTokens.{issued_id}
use Rattle.op_answer.specs.Answering.{op_answer}
use Rattle.op_answer.proofs.FirstLogin.{pair_of, signed_alice}
use Rattle.rp_answer.proofs.Sample.{word}
use Rattle.sso_places.specs.World.{Place, Provider, World}
use Rattle.sso_places.proofs.SmallSite.{configuration, legal_entry}
use Rattle.sso_places.proofs.LoginByCode.{past_consent, redeems, our_wish, token_entry, token_is_asked, code_is}
use Rattle.honest_worlds.proofs.Growing.{Stands, provider_stands}
use Rattle.honest_worlds.proofs.FirstPlaces.{grant_asks, exchanged, exchanged_stands}

abbrev pub tokens : OpReply
tokens = Tokens (word 21) (issued_id configuration our_wish signed_alice 1000 (Some (word 21)) None)

-- the request is sent under this number
abbrev pub redeems_from : ℕ → Place
redeems_from from = Provider from redeems (pair_of token_entry tokens)

abbrev pub redeemed : ℕ → World
redeemed from = redeems_from from ∷ exchanged

token_is_answered : op_answer configuration past_consent token_entry ≡ tokens
unfolding op_answer
token_is_answered = rw code_is refl

pub redeemed_stands : (from : ℕ) → Stands configuration (redeemed from)
redeemed_stands from = provider_stands configuration exchanged from redeems (pair_of token_entry tokens) exchanged_stands (record {
  asked = token_is_asked;
  entry = legal_entry IsOpAsk 21 token_entry.ask refl grant_asks;
  after_own = omega arith;
  after_all = omega arith;
  answered = token_is_answered;
})
