use Rattle.std.proofs.Common.{◌≡◌, ◌++◌, drop}
use Rattle.html_pages.specs.Escaping.{escaped}
use Rattle.html_pages.proofs.page.Page.push_text.Given as goal

-- what was written, and what is still to be written
abbrev pub invariant-loop-byte : goal.invariant-loop-byte
invariant-loop-byte l = l.self ++ escaped (drop l.byte-index l.bytes) ≡ l.fn.self ++ escaped l.bytes
