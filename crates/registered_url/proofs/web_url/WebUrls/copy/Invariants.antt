use Rattle.std.proofs.Common.{◌≡◌, take}
use Rattle.registered_url.proofs.web_url.WebUrls.copy.Given as goal

-- the URLs so far
abbrev pub invariant-loop-url : goal.invariant-loop-url
invariant-loop-url l = l.copied ≡ take l.url-index l.url-items
