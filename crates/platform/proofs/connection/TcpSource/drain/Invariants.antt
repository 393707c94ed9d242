use Rattle.std.proofs.Common.{◌-◌}
use Rattle.platform.proofs.connection.TcpSource.drain.Given as goal

abbrev pub decreases-loop-drained : goal.decreases-loop-drained
decreases-loop-drained g l = 1048576 - l.drained
