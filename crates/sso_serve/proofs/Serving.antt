-- What a server of each of the four cores did, if its core has this setup.
use Rattle.std.proofs.Common.{◌≡◌, List, Result, ap, ◌∙◌, subst}
use Rattle.std.specs.Result.{IfOk}
use Rattle.client_registry.specs.Configuration.{Configuration}
use Rattle.op_answer.specs.Legal as op
use Rattle.rp_answer.specs.Legal as rp
use Rattle.rp_answer.specs.Setup.{PartySetup, party_of}
use Rattle.pkce_party.specs.Adding.{IsLegalParty}
use Rattle.refresh_answer.specs.Answering.{Setup}
use Rattle.signout_answer.specs.declared.asks.EndSetup.{EndSetup}
use Rattle.signout_answer.specs.Answering.{SignoutSetup}
use Rattle.server_desk.specs.declared.desk.Desk.{Desk}
use Rattle.serving.specs.Summaries.{Telling, Summarises}
use Rattle.sso_serve.specs.Cores.{op_manner, op_most, op_registry, op_history}
use Rattle.sso_serve.specs.Cores.{alike, op_plus_around, op_plus_manner, op_plus_most, op_plus_setup, op_plus_history, IsLegalOpPlus}
use Rattle.sso_serve.specs.Cores.{rp_manner, rp_most, rp_setup, rp_history, rp_plus_manner, rp_plus_history}
use Rattle.server_roles.specs.declared.ran.Ran.{Ran}
use Rattle.server_roles.specs.Ends.{RanSo}
use Rattle.sso_serve.specs.Servers.{RanOp, RanOpPlus, RanRp, RanRpPlus}

-- the provider and the registry beside it
pub setups_same : (a b c : Configuration) → a ≡ c → b ≡ c → ◌≡◌ {A = Setup Configuration} (record { inner = a; registry = b }) (alike c)
setups_same a b c one other =
    let I : Configuration → Setup Configuration = λ v. record { inner = v; registry = b } in
    let R : Configuration → Setup Configuration = λ v. record { inner = c; registry = v } in
    ap I one ∙ ap R other

module _ {D L C W S K : Type 0} (t : Telling D L C W S K) (olds news : List (Desk D L C W)) where
  pub op_ran : {E : Type 0} (c configured : Configuration) (result : Result Ran E) → configured ≡ c
      → IfOk result (RanSo (Summarises t (op_manner c) op_most op_registry op_history op.IsLegalHistory configured c.listen olds news))
      → IfOk result (RanOp t olds news c)
  op_ran c configured result same ran =
      let Configured : Configuration → Type 0 =
      λ v. IfOk result (RanSo (Summarises t (op_manner c) op_most op_registry op_history op.IsLegalHistory v c.listen olds news)) in
      subst Configured same ran

  pub op_plus_ran : {E : Type 0} (e own : EndSetup) (inner : Setup Configuration) (result : Result Ran E) → own ≡ e
      → inner ≡ alike e.registry
      → IfOk result (RanSo (Summarises t (op_plus_manner e.registry) op_plus_most op_plus_setup op_plus_history IsLegalOpPlus
      (op_plus_around own inner) e.registry.listen olds news))
      → IfOk result (RanOpPlus t olds news e)
  op_plus_ran e own inner result same alike_is ran =
      let Served : SignoutSetup (Setup Configuration) → Type 0 =
      λ v. IfOk result (RanSo (Summarises t (op_plus_manner e.registry) op_plus_most op_plus_setup op_plus_history IsLegalOpPlus v
      e.registry.listen olds news)) in
      let Own : EndSetup → Type 0 = λ v. Served (op_plus_around v inner) in
      let Inner : Setup Configuration → Type 0 = λ v. Served (op_plus_around e v) in
      subst Inner alike_is (subst Own same ran)

  pub rp_ran : {E : Type 0} (p configured : PartySetup) (result : Result Ran E) → configured ≡ p
      → IfOk result (RanSo (Summarises t (rp_manner p.configuration p.number) rp_most rp_setup rp_history rp.IsLegalHistory configured
      (party_of p).listen olds news))
      → IfOk result (RanRp t olds news p)
  rp_ran p configured result same ran =
      let Configured : PartySetup → Type 0 =
      λ v. IfOk result (RanSo (Summarises t (rp_manner p.configuration p.number) rp_most rp_setup rp_history rp.IsLegalHistory v
      (party_of p).listen olds news)) in
      subst Configured same ran

  pub rp_plus_ran : {E : Type 0} (p configured : PartySetup) (result : Result Ran E) → configured ≡ p
      → IfOk result (RanSo (Summarises t (rp_plus_manner p.configuration p.number) rp_most rp_setup rp_plus_history IsLegalParty configured
      (party_of p).listen olds news))
      → IfOk result (RanRpPlus t olds news p)
  rp_plus_ran p configured result same ran =
      let Configured : PartySetup → Type 0 =
      λ v. IfOk result (RanSo (Summarises t (rp_plus_manner p.configuration p.number) rp_most rp_setup rp_plus_history IsLegalParty v
      (party_of p).listen olds news)) in
      subst Configured same ran
