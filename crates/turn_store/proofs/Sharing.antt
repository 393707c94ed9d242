-- Threads may share a store. It is too large for one search, so each field is searched for by itself.
use Rattle.std.proofs.Crossing.{crosses}
use denote.RattleType.{RattleType}
use denote.Struct.Declared.{shape}
use denote.Param.Send.{IsSend, IsSync, AllSync, recorded_sync, struct_sync, sendable}
use Rattle.atomic_table.proofs.owned.Table.TheSendSync as table
use Rattle.sso_base.proofs.chain.Chain.TheLaws.TheKnot as chain
use Rattle.sso_base.specs.declared.step.Core as core
use Rattle.turn_store.specs.contracts.calls.Places as places
use Rattle.turn_store.specs.contracts.store.Turn as turn

pub places_are_shared : IsSync places.the_row
places_are_shared = search (chain.crosses, crosses, sendable) depth 60 fits 20000

pub turn_is_shared : (C A R : RattleType) (g : core.Ghosts C.Denot A.Denot R.Denot) → IsSend C → IsSend A → IsSend R → IsSync (turn.the_row C A R g)
turn_is_shared C A R g c a r =
    let fields : AllSync (shape (turn.the_type C A R g)).fields = (search (table.the_field_sync, crosses, sendable) depth 60 fits 20000, (search (crosses, sendable) depth 60 fits 20000, (search (places_are_shared, crosses, sendable) depth 60 fits 20000, tt))) in
    recorded_sync _ _ _ (turn.the_type C A R g).to_one (struct_sync (shape (turn.the_type C A R g)) fields)
