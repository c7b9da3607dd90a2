-- What becomes of an event that comes, before there is a verdict on it.
use Rattle.std.specs.Prelude.{◌≡◌, ◌<◌, ℕ, true, false, length, slice_get}
use Rattle.fed_event.specs.Checked.{CheckedEvent}
use Rattle.fed_room_contract.specs.declared.receipt.Receipt.{Receipt}
use Rattle.fed_room_contract.specs.declared.arrival.Arrival.{Arrival}
use Rattle.fed_room_contract.specs.declared.arrival.Arrival.TheVariants.{Ready, Told}
use Rattle.fed_room_contract.specs.Graph.{is_ready}
use Rattle.fed_room_contract.specs.Room.{RoomState, Rules, event_id, is_known, receipt_of, after_receipt, first_ready}
use Rattle.fed_room_contract.specs.Store.{StoreState}

-- it is new and ready, and nothing has changed
pub record IsReady (old : StoreState) (event given : CheckedEvent) (new : StoreState) : Type 0 where
  pub same : given ≡ event
  pub unknown : is_known old.room (event_id event) ≡ false
  pub ready : is_ready old.room.stored event.event ≡ true
  pub after : new ≡ old

-- this becomes of it, whatever the rules
pub record IsTold (old : StoreState) (event : CheckedEvent) (receipt : Receipt) (new : StoreState) : Type 0 where
  pub told : (rules : Rules) → receipt_of rules old.room event ≡ receipt
  pub after : new.room ≡ after_receipt old.room event receipt

abbrev pub IsArrival : StoreState → CheckedEvent → Arrival → StoreState → Type 0
IsArrival old event (Ready given) new = IsReady old event given new
IsArrival old event (Told receipt) new = IsTold old event receipt new

-- the waiting event at this place is the first that is ready
pub record IsFirstReady (room : RoomState) (place : ℕ) : Type 0 where
  pub within : place < length room.waiting
  pub first : first_ready room ≡ slice_get room.waiting place
