use Rattle.std.proofs.Common.{rules}
use Rattle.sso_base.proofs.shelf_memory.MemoryShelfShelf.fetch.Goals as goal

pub returns-in_ok-new-in-Some-clause-found : goal.returns-in_ok-new-in-Some-clause-found
returns-in_ok-new-in-Some-clause-found c = (c.in-Some.content.now, search rules, search rules)
