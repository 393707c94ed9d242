use Rattle.std.proofs.Common.{rules}
use Rattle.work_permits.proofs.Counting.{gives}
use Rattle.work_permits.proofs.permits.Permits.give.Goals as goal

pub fetch_sub-found-requires : goal.fetch_sub-found-requires
fetch_sub-found-requires c =
    let shared = c.args.self.now.table.shared in let seat = c.args.permit.seat in (
      search rules,
      search rules,
      gives shared.key shared.table_id.slots seat.id seat.me c.requires.1,
    )
