-- What servers did with their desks.
use Rattle.std.specs.Prelude.{List}
use Rattle.client_registry.specs.Configuration.{Configuration}
use Rattle.op_exchange.specs.declared.ask.OpAsk.{OpAsk}
use Rattle.op_exchange.specs.declared.reply.OpReply.{OpReply}
use Rattle.op_answer.specs.Legal as op
use Rattle.op_core.specs.Providing.{Providing}
use Rattle.rp_exchange.specs.declared.ask.RpAsk.{RpAsk}
use Rattle.rp_exchange.specs.declared.reply.RpReply.{RpReply}
use Rattle.rp_answer.specs.Legal as rp
use Rattle.rp_answer.specs.Setup.{PartySetup, party_of}
use Rattle.rp_core.specs.Relying.{Relying}
use Rattle.signout_answer.specs.declared.asks.EndSetup.{EndSetup}
use Rattle.pkce_party.specs.declared.reply.PartyReply.{PartyReply}
use Rattle.pkce_party.specs.Adding.{IsLegalParty}
use Rattle.server_desk.specs.declared.desk.Desk.{Desk}
use Rattle.serving.specs.declared.summary.Summary.{Summary}
use Rattle.serving.specs.Summaries.{Telling, Summarises}
use Rattle.server_roles.specs.declared.ran.Ran.{Ran}
use Rattle.server_roles.specs.Ends.{RanSo}
use Rattle.sso_serve.specs.Cores.{op_manner, op_most, op_registry, op_history}
use Rattle.sso_serve.specs.Cores.{OpPlus, OpPlusAsk, OpPlusReply}
use Rattle.sso_serve.specs.Cores.{alike, op_plus_around, op_plus_manner, op_plus_most, op_plus_setup, op_plus_history, IsLegalOpPlus}
use Rattle.sso_serve.specs.Cores.{rp_manner, rp_most, rp_setup, rp_history, rp_plus_manner, rp_plus_history}

-- the provider of `op-plus`, and a relying party with proof keys, in a summary
abbrev pub OpPlusSummary : Type 0
OpPlusSummary = Summary OpPlus OpPlusAsk OpPlusReply

abbrev pub RpPlusSummary : Type 0
RpPlusSummary = Summary Relying RpAsk PartyReply

module _ {D L C W S K : Type 0} (t : Telling D L C W S K) (olds news : List (Desk D L C W)) where
  -- the provider of a configuration was served, at its `listen` address
  abbrev pub ServesOp : Configuration → Summary Providing OpAsk OpReply → Type 0
  ServesOp c s = Summarises t (op_manner c) op_most op_registry op_history op.IsLegalHistory c c.listen olds news s

  -- the same with proof keys, refresh tokens and questions before a sign-out
  abbrev pub ServesOpPlus : EndSetup → OpPlusSummary → Type 0
  ServesOpPlus e s =
      Summarises t (op_plus_manner e.registry) op_plus_most op_plus_setup op_plus_history IsLegalOpPlus
      (op_plus_around e (alike e.registry)) e.registry.listen olds news s

  -- the relying party of a setup was served, at its `listen` address
  abbrev pub ServesRp : PartySetup → Summary Relying RpAsk RpReply → Type 0
  ServesRp p s = Summarises t (rp_manner p.configuration p.number) rp_most rp_setup rp_history rp.IsLegalHistory p (party_of p).listen olds news s

  -- the same with proof keys
  abbrev pub ServesRpPlus : PartySetup → RpPlusSummary → Type 0
  ServesRpPlus p s =
      Summarises t (rp_plus_manner p.configuration p.number) rp_most rp_setup rp_plus_history IsLegalParty p (party_of p).listen olds news s

  -- the same, with this result
  abbrev pub RanOp : Configuration → Ran → Type 0
  RanOp c ran = RanSo (ServesOp c) ran

  abbrev pub RanOpPlus : EndSetup → Ran → Type 0
  RanOpPlus e ran = RanSo (ServesOpPlus e) ran

  abbrev pub RanRp : PartySetup → Ran → Type 0
  RanRp p ran = RanSo (ServesRp p) ran

  abbrev pub RanRpPlus : PartySetup → Ran → Type 0
  RanRpPlus p ran = RanSo (ServesRpPlus p) ran
