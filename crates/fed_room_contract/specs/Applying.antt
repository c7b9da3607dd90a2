-- What becomes of a room to which an event comes, and which then stores all that is ready (Server-Server API, "PDUs").
use Rattle.std.specs.Prelude.{◌≡◌, ◌+◌, ◌∷◌, length, replicate, None, IsSome}
use Rattle.fed_event.specs.Checked.{CheckedEvent}
use Rattle.fed_room_contract.specs.declared.applying.Applied.{Applied}
use Rattle.fed_room_contract.specs.declared.applying.Stopped.{Stopped}
use Rattle.fed_room_contract.specs.declared.applying.Stopped.TheVariants.{NotReceived, Received}
use Rattle.fed_room_contract.specs.declared.input.Input.TheVariants.{Receive, Advance}
use Rattle.fed_room_contract.specs.Room.{RoomState, Rules, receipt_of, after_receipt, first_ready}
use Rattle.fed_room_contract.specs.Runs.{room_after}

-- the room after the event came to it
abbrev pub received : Rules → RoomState → CheckedEvent → RoomState
received rules room event = after_receipt room event (receipt_of rules room event)

-- the event came, and then events that waited were stored, each by one advance, until none was ready: this was told
pub record IsApplied (rules : Rules) (old : RoomState) (event : CheckedEvent) (told : Applied) (new : RoomState) : Type 0 where
  pub receipt : told.receipt ≡ receipt_of rules old event
  pub inputs : new ≡ room_after rules old (Receive event ∷ replicate told.more Advance)
  pub more : length new.stored ≡ length (received rules old event).stored + told.more
  pub all : first_ready new ≡ None

-- the event came, and then some events that waited were stored, each by one advance, and one that is ready was not, for want of memory:
-- this was told
pub record IsStoppedAfter (rules : Rules) (old : RoomState) (event : CheckedEvent) (told : Applied) (new : RoomState) : Type 0 where
  pub receipt : told.receipt ≡ receipt_of rules old event
  pub inputs : new ≡ room_after rules old (Receive event ∷ replicate told.more Advance)
  pub more : length new.stored ≡ length (received rules old event).stored + told.more
  pub left : IsSome (first_ready new)

-- the same, whatever was told
abbrev pub IsStopped : Rules → RoomState → CheckedEvent → RoomState → Type 0
IsStopped rules old event new = (told : Applied) × IsStoppedAfter rules old event told new

-- what holds of the event that comes back, where it was not received, and of what is told, where it was
abbrev pub IfNotReceived : Stopped → (CheckedEvent → Type 0) → Type 0
IfNotReceived (NotReceived event) P = P event
IfNotReceived (Received told) P = Unit {0}

abbrev pub IfReceived : Stopped → (Applied → Type 0) → Type 0
IfReceived (NotReceived event) P = Unit {0}
IfReceived (Received told) P = P told
