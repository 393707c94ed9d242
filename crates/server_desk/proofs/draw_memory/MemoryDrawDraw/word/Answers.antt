use Rattle.std.proofs.Common.{◌≡◌, ◌+◌, ◌-◌, ◌^◌, min, arith}
use Rattle.server_desk.proofs.draw_memory.MemoryDrawDraw.word.Goals as goal

pub returns-clause-moved : goal.returns-clause-moved
returns-clause-moved c = λ i.
    let number : min (c.saturating_add-self-inside.result + i) (2 ^ 64 - 1) ≡ min (c.self.inside.number + (i + 1)) (2 ^ 64 - 1) =
    omega (arith, c.saturating_add-self-inside.ensures)
    in
    rw (← c.self.view_is, number)
