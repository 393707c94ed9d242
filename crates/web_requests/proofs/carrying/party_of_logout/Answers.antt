use Rattle.std.proofs.Common.{◌<◌, subst}
use Rattle.client_registry.specs.declared.records.Party.{Party}
use Rattle.client_registry.specs.Numbers.{client_of, party_row, no_party}
use Rattle.web_requests.specs.Carrying.{logs_out_at}
use Rattle.web_requests.proofs.Positions.{position_on, position_here, logout_told}
use Rattle.web_requests.proofs.RegistryRows.{some_row}
use Rattle.web_requests.proofs.carrying.party_of_logout.Goals as goal

pub returns-then-is_text-clause-party : goal.returns-then-is_text-clause-party
returns-then-is_text-clause-party c =
    let low = subst (λ n. c.loop-number.number < n) c.parties-number-end.ensures.count c.loop-number-test.true in
    position_here (λ (party : Party). logs_out_at c.args.uri.now (client_of c.args.registry.now party)) c.args.registry.now.parties c.loop-number.number (party_row c.args.registry.now c.loop-number.number) _
    (some_row c.args.registry.now.parties c.loop-number.number no_party low) c.loop-number.invariant
    (logout_told c.args.registry.now c.loop-number.number c.args.uri.now c.client_of_party.result.now c.is_text.result _ c.parties-number-end.ensures.registry low c.client_of_party.ensures c.is_text.ensures c.if-is_text.true)

pub loop-number-preserved : goal.loop-number-preserved
loop-number-preserved c =
    let low = subst (λ n. c.loop-number.number < n) c.parties-number-end.ensures.count c.loop-number-test.true in
    position_on (λ (party : Party). logs_out_at c.args.uri.now (client_of c.args.registry.now party)) c.args.registry.now.parties c.loop-number.number (party_row c.args.registry.now c.loop-number.number) _
    (some_row c.args.registry.now.parties c.loop-number.number no_party low) c.loop-number.invariant
    (logout_told c.args.registry.now c.loop-number.number c.args.uri.now c.client_of_party.result.now c.is_text.result _ c.parties-number-end.ensures.registry low c.client_of_party.ensures c.is_text.ensures c.if-is_text.false)
