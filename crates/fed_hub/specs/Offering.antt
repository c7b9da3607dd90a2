-- What a hub tells of what clients offer, and what their tokens are then.
use Rattle.std.specs.Prelude.{◌≡◌, ℕ, List, true, false, None, Some, Result, Ok, Err}
use Rattle.serde_json.specs.Data.{Data}
use Rattle.fed_event.specs.EventId.{event_id_of}
use Rattle.fed_room_contract.specs.declared.refusal.Refusal.TheVariants as refusal
use Rattle.fed_room_contract.specs.Draft.{DraftFields}
use Rattle.fed_room_contract.specs.Prepared.{PreparedEvent, Signer, is_own_user, prepared_of}
use Rattle.fed_room_contract.specs.Room.{committed}
use Rattle.fed_room.specs.Room.{room_of, room_rules}
use Rattle.fed_journal.specs.declared.edu.EduFault.TheVariants as faulty
use Rattle.fed_journal.specs.Edu.{is_edu, edu_fault_of}
use Rattle.fed_journal.specs.declared.parcel.Parcel.{Parcel}
use Rattle.fed_wires.specs.WireId.{WireId}
use Rattle.fed_hub_state.specs.KeptRoom.{KeptState}
use Rattle.fed_hub_state.specs.WireRoom.{IsFullOf}
use Rattle.fed_hub_told.specs.declared.told_event.ToldEvent.{ToldEvent}
use Rattle.fed_hub_told.specs.Told.{ToldState}
use Rattle.fed_hub.specs.ClientToken.{IsToldNothing, IsToldOf, IsToldOfEdu}
use Rattle.fed_hub.specs.declared.faults.SendFault.{SendFault}
use Rattle.fed_hub.specs.declared.faults.SendFault.TheVariants as send
use Rattle.fed_hub.specs.declared.faults.EduFault.{EduFault}
use Rattle.fed_hub.specs.declared.faults.EduFault.TheVariants as edu
use Rattle.fed_hub.specs.declared.offering.Sent.{Sent}
use Rattle.fed_hub.specs.declared.offering.Unsent.{Unsent}
use Rattle.fed_hub.specs.declared.offering.Unsent.TheVariants.{Refused, Full}
use Rattle.fed_hub.specs.Hub.{HubShape}
use Rattle.fed_hub.specs.Setup.{has_room}

-- what the client is told of an event that it sent: the draft, and its number and id
abbrev pub told_of : DraftFields → Sent → ToldEvent
told_of draft sent = record { draft = draft; number = sent.number; event_id = sent.event_id }

-- the hub has the draft's room, and the sender is a user of its server
abbrev pub IsOfHub : HubShape → DraftFields → Type 0
IsOfHub hub draft = (has_room hub.rooms draft.room ≡ true) × (is_own_user hub.name draft.sender ≡ true)

-- of a draft: who is told a number was told of the event, and else of nothing
abbrev pub IsSent : HubShape → DraftFields → ToldState → Result Sent SendFault → ToldState → Type 0
IsSent hub draft client (Ok sent) after = IsOfHub hub draft × IsToldOf (told_of draft sent) client after
IsSent hub draft client (Err send.UnknownRoom) after = (has_room hub.rooms draft.room ≡ false) × IsToldNothing client after
IsSent hub draft client (Err send.NotOwnUser) after = (has_room hub.rooms draft.room ≡ true) × (is_own_user hub.name draft.sender ≡ false) × IsToldNothing client after
IsSent hub draft client (Err (send.BadDraft fault)) after = IsOfHub hub draft × IsToldNothing client after
IsSent hub draft client (Err (send.NotAllowed rule)) after = IsOfHub hub draft × IsToldNothing client after
IsSent hub draft client (Err send.ShutDown) after = IsOfHub hub draft × IsToldNothing client after
IsSent hub draft client (Err send.Limit) after = IsOfHub hub draft × IsToldNothing client after
IsSent hub draft client (Err send.Memory) after = IsOfHub hub draft × IsToldNothing client after

-- the room is as it was, and the client was told of nothing
abbrev pub Stays : KeptState → ToldState → KeptState → ToldState → Type 0
Stays room client stored after = (room_of stored.room ≡ room_of room.room) × IsToldNothing client after

-- the room makes an event of a draft
abbrev pub IsMadeOf : Signer → DraftFields → KeptState → PreparedEvent → Type 0
IsMadeOf signer draft room p = prepared_of room_rules signer (room_of room.room).stored draft ≡ Ok p

-- Why a draft is refused in its room: by the room's rules, in their order; or since the journal takes nothing or has no place, or memory ran out.
abbrev pub IsRefusedIn : Signer → DraftFields → KeptState → SendFault → Type 0
IsRefusedIn signer draft room send.NotOwnUser = prepared_of room_rules signer (room_of room.room).stored draft ≡ Err refusal.NotOwnUser
IsRefusedIn signer draft room (send.BadDraft fault) = prepared_of room_rules signer (room_of room.room).stored draft ≡ Err (refusal.BadDraft fault)
IsRefusedIn signer draft room (send.NotAllowed rule) = prepared_of room_rules signer (room_of room.room).stored draft ≡ Err (refusal.NotAllowed rule)
IsRefusedIn signer draft room send.ShutDown = (p : PreparedEvent) × IsMadeOf signer draft room p
IsRefusedIn signer draft room send.Limit = (p : PreparedEvent) × IsMadeOf signer draft room p
IsRefusedIn signer draft room send.Memory = is_own_user signer.name draft.sender ≡ true
IsRefusedIn signer draft room send.UnknownRoom = ⊥

-- Of a draft in its room: the event that the room makes of it is stored there, and its id is told; or why it is not; or it is made, one of the
-- wires was shown to have no room, and the same draft comes back.
abbrev pub IsSentIn : Signer → List (WireId Parcel) → DraftFields → KeptState → ToldState → Result Sent Unsent → KeptState → ToldState → Type 0
IsSentIn signer wires draft room client (Ok sent) stored after =
    (p : PreparedEvent) × IsMadeOf signer draft room p × (sent.event_id ≡ event_id_of p.event.event)
    × (room_of stored.room ≡ committed (room_of room.room) p.event) × IsToldOf (told_of draft sent) client after
IsSentIn signer wires draft room client (Err (Refused fault)) stored after = IsRefusedIn signer draft room fault × Stays room client stored after
IsSentIn signer wires draft room client (Err (Full full same)) stored after =
    ((p : PreparedEvent) × IsMadeOf signer draft room p) × IsFullOf wires full × (same ≡ draft) × Stays room client stored after

-- of an ephemeral data unit, for these destinations
abbrev pub IsEduOffered : Data → List ℕ → ToldState → Result ℕ EduFault → ToldState → Type 0
IsEduOffered value dests client (Ok number) after = (edu_fault_of value ≡ None) × IsToldOfEdu (record { edu = value; dests = dests; number = number }) client after
IsEduOffered value dests client (Err edu.BadEdu) after = (edu_fault_of value ≡ Some faulty.BadEdu) × IsToldNothing client after
IsEduOffered value dests client (Err edu.TooLarge) after = (edu_fault_of value ≡ Some faulty.TooLarge) × IsToldNothing client after
IsEduOffered value dests client (Err edu.TooDeep) after = (edu_fault_of value ≡ Some faulty.TooDeep) × IsToldNothing client after
IsEduOffered value dests client (Err edu.ShutDown) after = (edu_fault_of value ≡ None) × IsToldNothing client after
IsEduOffered value dests client (Err edu.Limit) after = (edu_fault_of value ≡ None) × IsToldNothing client after
IsEduOffered value dests client (Err edu.Memory) after = (is_edu value ≡ true) × IsToldNothing client after
