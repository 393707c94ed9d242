use Rattle.std.proofs.Common.{◌≡◌, drop}
use Rattle.std.specs.List.{position_from}
use Rattle.std.specs.Str.{bytes_eq}
use Rattle.client_registry.specs.declared.records.Party.{Party}
use Rattle.web_requests.specs.Following.{party_of_uri}
use Rattle.web_requests.proofs.following.party_of_uri.Given as goal

-- the party is among those to come
abbrev pub invariant-loop-number : goal.invariant-loop-number
invariant-loop-number l = position_from (λ (party : Party). bytes_eq party.redirect l.uri) l.number (drop l.number l.registry.parties) ≡ party_of_uri l.registry l.uri
