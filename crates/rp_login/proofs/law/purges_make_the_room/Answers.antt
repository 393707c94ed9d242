use Rattle.std.proofs.Common.{length}
use Rattle.std.proofs.lemmas.Bool.{ltb-true}
use Rattle.held_rows.specs.Held.{most_rows}
use Rattle.rp_login.specs.Calls.{purge, after}
use Rattle.rp_login.proofs.law.purges_make_the_room.Goals as goal

pub returns-clause-logins : goal.returns-clause-logins
returns-clause-logins c = λ at t room. ltb-true (length (after (purge at) t).logins) most_rows room

pub returns-clause-pendings : goal.returns-clause-pendings
returns-clause-pendings c = λ at t room. ltb-true (length (after (purge at) t).pendings) most_rows room

pub returns-clause-sessions : goal.returns-clause-sessions
returns-clause-sessions c = λ at t room. ltb-true (length (after (purge at) t).visits) most_rows room

pub returns-clause-seens : goal.returns-clause-seens
returns-clause-seens c = λ at t room. ltb-true (length (after (purge at) t).seens) most_rows room
