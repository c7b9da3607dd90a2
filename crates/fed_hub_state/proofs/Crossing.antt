-- What may go to another thread. Each type is shown by its parts, since a search for all of them at once finds nothing.
use denote.RattleType.{RattleType}
use denote.Struct.Struct.{Struct}
use denote.Struct.Declared.{Declared, fields, row, shape}
use denote.Param.Send.{IsSend, IsSync, AllSend, AllSync, sendable, view_send, recorded_send, recorded_sync, struct_send, struct_sync}
use Rattle.std.proofs.Crossing as crossing
use Rattle.std.proofs.MapsCrossing as maps
use Rattle.std.proofs.vec.Vec.TheSendSync as vec
use Rattle.std.proofs.sync.ledger.Book.TheSendSync as book
use Rattle.fed_json.proofs.tree.Tree.TheLaws.TheKnot
use Rattle.fed_event.specs.contracts.checked.Checked as checked
use Rattle.fed_journal.specs.contracts.parcel.Parcel as parcel
use Rattle.fed_journal.specs.contracts.journal.Journal as journal
use Rattle.fed_outbox.specs.contracts.outbox.Outbox as outbox
use Rattle.fed_room_contract.specs.contracts.change.Change as change
use Rattle.fed_room_contract.specs.contracts.state.State as state
use Rattle.fed_room_contract.specs.contracts.step.Step as step
use Rattle.fed_room_contract.specs.contracts.steps.Steps as steps
use Rattle.fed_wires.specs.contracts.ends.ReceiveEnd as receiver
use Rattle.fed_wires.specs.contracts.ends.SendEnd as sender
use Rattle.fed_wires.proofs.ends.ReceiveEnd.TheSendSync as receive
use Rattle.fed_wires.proofs.ends.SendEnd.TheSendSync as send
use Rattle.fed_wires.proofs.board.Seat.TheSendSync as seat
use Rattle.fed_hub_state.specs.contracts.in_place.InPlace as in_place
use Rattle.fed_hub_state.specs.contracts.in_place.InPlaceNumberingParcel.TheImpl as numbers
use Rattle.fed_hub_state.specs.declared.naming.Naming as naming
use Rattle.fed_hub_state.specs.contracts.kept_room.KeptRoom as kept_room
use Rattle.fed_hub_state.specs.contracts.seated_outbox.SeatedOutbox as seated
use Rattle.fed_hub_state.specs.contracts.seated_outbox.SeatedOutbox.TheInside as seated_inside
use Rattle.fed_hub_state.specs.contracts.sending_journal.SendingJournal as sending
use Rattle.fed_hub_state.specs.contracts.sending_journal.SendingJournal.TheInside as sending_inside

-- a struct, where all its fields may go, or be shared
pub declared_send : (T : Declared) → AllSend (fields T) → IsSend (row T)
declared_send T s = recorded_send (Struct (shape T)) T.D T.to T.to_one (struct_send (shape T) s)

pub declared_sync : (T : Declared) → AllSync (fields T) → IsSync (row T)
declared_sync T s = recorded_sync (Struct (shape T)) T.D T.to T.to_one (struct_sync (shape T) s)

pub parcel_send : IsSend parcel.the_row
parcel_send = first_of (
  search (maps.crosses, crossing.crosses, TheKnot.crosses, sendable) depth 60 fits 20000,
  search (maps.crosses, crossing.crosses, TheKnot.crosses_both, sendable) depth 60 fits 20000,
)

pub receive_end_send : IsSend (receiver.the_row parcel.the_row in_place.the_row numbers.ghosts)
receive_end_send = search (receive.the_send, parcel_send)

send_end_send : IsSend (sender.the_row parcel.the_row in_place.the_row numbers.ghosts)
send_end_send = search (send.the_send, parcel_send)

journal_send : IsSend journal.the_row
journal_send = first_of (
  search (maps.crosses, crossing.crosses, TheKnot.crosses, sendable) depth 60 fits 20000,
  search (maps.crosses, crossing.crosses, TheKnot.crosses_both, sendable) depth 60 fits 20000,
)

outbox_send : IsSend outbox.the_row
outbox_send = first_of (
  search (maps.crosses, crossing.crosses, TheKnot.crosses, sendable) depth 60 fits 20000,
  search (maps.crosses, crossing.crosses, TheKnot.crosses_both, sendable) depth 60 fits 20000,
)

pub checked_send : IsSend checked.the_row
checked_send = first_of (
  search (maps.crosses, crossing.crosses, TheKnot.crosses, sendable) depth 60 fits 20000,
  search (maps.crosses, crossing.crosses, TheKnot.crosses_both, sendable) depth 60 fits 20000,
)

state_send : IsSend state.the_row
state_send = search (maps.crosses, crossing.crosses, sendable) depth 60 fits 20000

change_send : IsSend change.the_row
change_send = search (maps.crosses, crossing.crosses, sendable) depth 60 fits 20000

step_send : IsSend step.the_row
step_send = search (state_send, change_send, maps.crosses, crossing.crosses, sendable) depth 60 fits 20000

steps_send : IsSend steps.the_row
steps_send = search (state_send, step_send, maps.crosses, crossing.crosses, sendable) depth 60 fits 20000

pub kept_room_send : IsSend kept_room.the_row
kept_room_send = search (checked_send, steps_send, maps.crosses, crossing.crosses, sendable) depth 60 fits 20000

pub seated_outbox_send : (N : RattleType) (names : naming.Ghosts N.Denot) → IsSend (seated.the_row N names)
seated_outbox_send N names = view_send _ _ _ _ _ (declared_send (seated_inside.the_type N names) (outbox_send, (search (seat.the_send, sendable) depth 60, (search sendable depth 60, tt))))

pub sending_journal_send : (N : RattleType) (names : naming.Ghosts N.Denot) → IsSend (sending.the_row N names)
sending_journal_send N names = view_send _ _ _ _ _ (declared_send (sending_inside.the_type N names) (
  journal_send,
  (
    search (send_end_send, vec.the_send, crossing.crosses, sendable) depth 60 fits 20000,
    (
      search (book.the_send, crossing.crosses, sendable) depth 60 fits 20000,
      (
        search (book.the_send, crossing.crosses, sendable) depth 60 fits 20000,
        (search sendable, tt),
      ),
    ),
  ),
))
