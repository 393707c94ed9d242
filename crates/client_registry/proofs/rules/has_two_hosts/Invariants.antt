use Rattle.std.proofs.Common.{◌≡◌, drop, not}
use Rattle.std.specs.List.{list_any}
use Rattle.std.specs.Str.{bytes_eq}
use Rattle.registered_url.specs.declared.web_url.WebUrl.{WebUrl}
use Rattle.client_registry.specs.Rules as spec
use Rattle.client_registry.proofs.rules.has_two_hosts.Given as goal

abbrev pub invariant-loop-url : goal.invariant-loop-url
invariant-loop-url l = list_any (λ (u : WebUrl). not (bytes_eq u.host (spec.sector_of l.urls))) (drop l.url-index l.urls) ≡ spec.has_two_hosts l.urls
