-- What a journal that has no room tells.
use Rattle.std.specs.Prelude.{List}
use Rattle.fed_journal.specs.declared.fault.JournalFault.{JournalFault}
use Rattle.fed_journal.specs.declared.fault.JournalFault.TheVariants as journal
use Rattle.fed_journal.specs.declared.parcel.Parcel.{Parcel}
use Rattle.fed_wires.specs.WireId.{WireId}
use Rattle.fed_hub_state.specs.declared.sending_journal.EnterFault.{EnterFault}
use Rattle.fed_hub_state.specs.declared.sending_journal.EnterFault.TheVariants.{Memory, ShutDown, Limit, Full}
use Rattle.fed_hub_state.specs.WireRoom.{IsFullOf}

abbrev pub enter_fault_of : JournalFault → EnterFault
enter_fault_of journal.Memory = Memory
enter_fault_of journal.Limit = Limit

-- a wire that is told as full is one of these, and shown to have had no room for a parcel
abbrev pub FullIsOf : List (WireId Parcel) → EnterFault → Type 0
FullIsOf wires (Full full) = IsFullOf wires full
FullIsOf wires Memory = Unit {0}
FullIsOf wires ShutDown = Unit {0}
FullIsOf wires Limit = Unit {0}
