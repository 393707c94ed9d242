use Rattle.std.proofs.Common.{◌≡◌, drop}
use Rattle.std.specs.List.{position_from}
use Rattle.client_registry.specs.declared.records.Party.{Party}
use Rattle.client_registry.specs.Numbers.{client_of}
use Rattle.web_requests.specs.Carrying.{logs_out_at, party_of_logout}
use Rattle.web_requests.proofs.carrying.party_of_logout.Given as goal

-- the party is among those to come
abbrev pub invariant-loop-number : goal.invariant-loop-number
invariant-loop-number l = position_from (λ (party : Party). logs_out_at l.uri (client_of l.registry party)) l.number (drop l.number l.registry.parties) ≡ party_of_logout l.registry l.uri
