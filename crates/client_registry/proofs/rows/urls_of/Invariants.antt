use Rattle.std.proofs.Common.{◌≡◌, take}
use Rattle.client_registry.specs.Records.{urls_of}
use Rattle.client_registry.proofs.rows.urls_of.Given as goal

-- the URLs so far
abbrev pub invariant-loop-text : goal.invariant-loop-text
invariant-loop-text l = l.urls ≡ urls_of (take l.text-index l.texts)
