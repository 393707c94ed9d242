-- Threads may share permits, and a gate.
use Rattle.std.proofs.Crossing.{crosses}
use denote.Struct.Declared.{shape}
use denote.Param.Send.{IsSync, AllSync, recorded_sync, struct_sync, sendable}
use Rattle.atomic_table.proofs.owned.Table.TheSendSync as table
use Rattle.work_permits.specs.contracts.permits.Permits as permits
use Rattle.work_permits.specs.contracts.gate.Gate as gate

pub permits_are_shared : IsSync permits.the_row
permits_are_shared = search (table.the_field_sync, crosses, sendable) depth 60 fits 20000

permits_as_field_are_shared : IsSync permits.the_field.row
permits_as_field_are_shared = search (table.the_field_sync, crosses, sendable) depth 60 fits 20000

pub gate_is_shared : IsSync gate.the_row
gate_is_shared =
    let fields : AllSync (shape gate.the_type).fields = (permits_as_field_are_shared, (permits_as_field_are_shared, tt)) in
    recorded_sync _ _ _ gate.the_type.to_one (struct_sync (shape gate.the_type) fields)
