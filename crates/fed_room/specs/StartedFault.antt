-- Why there are no events that a room begins with: what becomes of the fault of one of them.
use Rattle.fed_event.specs.declared.fault.PduFault.{PduFault}
use Rattle.fed_event.specs.declared.fault.PduFault.TheVariants as fault
use Rattle.fed_room.specs.declared.started_fault.StartedFault.{StartedFault}
use Rattle.fed_room.specs.declared.started_fault.StartedFault.TheVariants.{Memory, Bad}

abbrev pub started_fault_of : PduFault → StartedFault
started_fault_of fault.Memory = Memory
started_fault_of other = Bad other
