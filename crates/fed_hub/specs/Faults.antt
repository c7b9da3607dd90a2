-- What a hub tells of the refusals of its parts.
use Rattle.std.specs.Prelude.{List, Result, Ok, Err}
use Rattle.fed_room_contract.specs.Draft.{DraftFields}
use Rattle.fed_room_contract.specs.declared.refusal.Refusal.{Refusal}
use Rattle.fed_room_contract.specs.declared.refusal.Refusal.TheVariants as refusal
use Rattle.fed_journal.specs.declared.edu.EduFault as journal
use Rattle.fed_journal.specs.declared.edu.EduFault.TheVariants as faulty
use Rattle.fed_journal.specs.declared.fault.JournalFault.{JournalFault}
use Rattle.fed_journal.specs.declared.fault.JournalFault.TheVariants as refused
use Rattle.fed_journal.specs.declared.parcel.Parcel.{Parcel}
use Rattle.fed_wires.specs.WireId.{WireId}
use Rattle.fed_hub_state.specs.WireRoom.{IsFullOf}
use Rattle.fed_hub_state.specs.declared.sending_journal.CloseFault.{CloseFault}
use Rattle.fed_hub_state.specs.declared.sending_journal.CloseFault.TheVariants as close
use Rattle.fed_hub_state.specs.declared.sending_journal.EnterFault.{EnterFault}
use Rattle.fed_hub_state.specs.declared.sending_journal.EnterFault.TheVariants as enter
use Rattle.fed_hub.specs.declared.faults.SendFault.{SendFault}
use Rattle.fed_hub.specs.declared.faults.SendFault.TheVariants as send
use Rattle.fed_hub.specs.declared.faults.EduFault.{EduFault}
use Rattle.fed_hub.specs.declared.faults.EduFault.TheVariants as edu
use Rattle.fed_hub.specs.declared.offering.Unsent.{Unsent}
use Rattle.fed_hub.specs.declared.offering.Unsent.TheVariants.{Refused, Full}

-- of a room's refusal
abbrev pub send_fault_of : Refusal → SendFault
send_fault_of refusal.Memory = send.Memory
send_fault_of refusal.NotOwnUser = send.NotOwnUser
send_fault_of (refusal.BadDraft fault) = send.BadDraft fault
send_fault_of (refusal.NotAllowed rule) = send.NotAllowed rule

-- of a journal's, where what was made of a draft is not entered
abbrev pub unsent_of : EnterFault → DraftFields → Unsent
unsent_of enter.Memory draft = Refused send.Memory
unsent_of enter.ShutDown draft = Refused send.ShutDown
unsent_of enter.Limit draft = Refused send.Limit
unsent_of (enter.Full full) draft = Full full draft

abbrev pub edu_fault_told : journal.EduFault → EduFault
edu_fault_told faulty.BadEdu = edu.BadEdu
edu_fault_told faulty.TooLarge = edu.TooLarge
edu_fault_told faulty.TooDeep = edu.TooDeep

-- a wire that is told as full is one of these, and shown to have had no room for a parcel
abbrev pub UnsentIsOf : List (WireId Parcel) → Unsent → Type 0
UnsentIsOf wires (Refused fault) = Unit {0}
UnsentIsOf wires (Full full draft) = IsFullOf wires full

-- what is told, behind a wait where a wire has no room
abbrev pub told_of_sending : Unsent → Result DraftFields SendFault
told_of_sending (Refused fault) = Err fault
told_of_sending (Full full draft) = Ok draft

abbrev pub told_of_offering : EnterFault → Result (Unit {0}) EduFault
told_of_offering enter.Memory = Err edu.Memory
told_of_offering enter.ShutDown = Err edu.ShutDown
told_of_offering enter.Limit = Err edu.Limit
told_of_offering (enter.Full full) = Ok tt

abbrev pub told_of_closing : CloseFault → Result (Unit {0}) JournalFault
told_of_closing close.Memory = Err refused.Memory
told_of_closing close.Limit = Err refused.Limit
told_of_closing (close.Full full) = Ok tt
