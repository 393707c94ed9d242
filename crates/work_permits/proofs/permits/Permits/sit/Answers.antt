use Rattle.std.proofs.Common.{rules}
use Rattle.work_permits.proofs.Counting.{sits}
use Rattle.work_permits.proofs.permits.Permits.sit.Goals as goal

pub load_new_seat-found-requires : goal.load_new_seat-found-requires
load_new_seat-found-requires c = let shared = c.args.self.now.table.shared in (search rules, sits shared.key shared.table_id.slots)
