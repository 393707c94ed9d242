use Rattle.std.proofs.lemmas.List.{drop-drop}
use Rattle.server_desk.proofs.link_memory.MemoryLink.advance.Goals as goal

pub returns-then-self-len : goal.returns-then-self-len
returns-then-self-len c = rw (← c.self.view_is, drop-drop)
