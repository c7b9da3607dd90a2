-- What is told where outboxes are not closed.
use Rattle.std.specs.Prelude.{List}
use Rattle.fed_journal.specs.declared.fault.JournalFault.{JournalFault}
use Rattle.fed_journal.specs.declared.fault.JournalFault.TheVariants as journal
use Rattle.fed_journal.specs.declared.parcel.Parcel.{Parcel}
use Rattle.fed_wires.specs.WireId.{WireId}
use Rattle.fed_hub_state.specs.declared.sending_journal.CloseFault.{CloseFault}
use Rattle.fed_hub_state.specs.declared.sending_journal.CloseFault.TheVariants.{Memory, Limit, Full}
use Rattle.fed_hub_state.specs.WireRoom.{IsFullOf}

abbrev pub close_fault_of : JournalFault → CloseFault
close_fault_of journal.Memory = Memory
close_fault_of journal.Limit = Limit

-- a wire that is told as full is one of these, and shown to have had no room for a parcel
abbrev pub CloseFullIsOf : List (WireId Parcel) → CloseFault → Type 0
CloseFullIsOf wires (Full full) = IsFullOf wires full
CloseFullIsOf wires Memory = Unit {0}
CloseFullIsOf wires Limit = Unit {0}
