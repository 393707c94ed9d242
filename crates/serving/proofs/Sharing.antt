-- Threads may share what the workers of a server share.
use Rattle.std.proofs.Crossing.{crosses}
use denote.RattleType.{RattleType}
use denote.Ref.{NamedLft}
use denote.Param.Send.{IsSend, IsSync, sendable}
use Rattle.sso_base.specs.declared.step.Core as core
use Rattle.turn_store.proofs.Sharing.{turn_is_shared}
use Rattle.work_permits.proofs.Sharing.{gate_is_shared}
use Rattle.serving.specs.contracts.backend.Backend as backend

pub backend_is_shared : (ℓ : NamedLft) (R X C A P : RattleType) (g : core.Ghosts C.Denot A.Denot P.Denot) → IsSync R → IsSync X → IsSend C → IsSend A → IsSend P → IsSync (backend.the_row ℓ R X C A P g)
backend_is_shared ℓ R X C A P g r x c a p = search (turn_is_shared, gate_is_shared, crosses, sendable) depth 60 fits 20000
