use Rattle.std.proofs.Common.{sym, true≢false}
use Rattle.jws_compact.proofs.Objects.{object_read, object_refused}
use Rattle.jws_compact.proofs.header.object_of.Goals as goal

pub returns-then-is_object : goal.returns-then-is_object
returns-then-is_object c = object_read _ _ c.in-Ok.ensures.ok.0 c.in-Ok.ensures.ok.1 (sym c.if-is_object.ensures)

pub returns-else-is_memory : goal.returns-else-is_memory
returns-else-is_memory c = object_refused _ (c.in-Err.ensures.err (λ m. true≢false (sym (c.if-is_memory.ensures.1 m))))
