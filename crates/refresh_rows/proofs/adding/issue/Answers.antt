use Rattle.std.proofs.Common.{true}
use Rattle.held_rows.proofs.Kept.{put_pushes}
use Rattle.refresh_rows.specs.TokenRows.{held_name, held_token}
use Rattle.refresh_rows.proofs.adding.issue.Goals as goal

pub returns-clause-rows : goal.returns-clause-rows
returns-clause-rows c =
    rw (c.add.ensures, c.new.ensures) (put_pushes held_name (held_token c.args.word c.args.family true c.args.since) c.args.tokens.now.rows c.requires.unnamed)
