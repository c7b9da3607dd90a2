-- How events go over the wires to their rooms. The standard says nothing of wires.
use Rattle.std.specs.Prelude.{◌≡◌, ◌≤◌, ◌-◌, ℕ, List, ◌++◌, Bool, true, false, Some, None, length, take, set, slice_get}
use Rattle.fed_dest.specs.List.{place_of}
use Rattle.fed_event.specs.Checked.{CheckedEvent}
use Rattle.fed_event.specs.Fields.{room_id_of}
use Rattle.fed_inbox.specs.Queues.{for_place}
use Rattle.fed_wires.specs.SendEnd.{Sender, with_sent, with_returned}
use Rattle.fed_hub_serving.specs.declared.bound.Bound.{Bound}
use Rattle.fed_hub_serving.specs.declared.end_place.EndPlace.{EndPlace}
use Rattle.fed_hub_serving.specs.declared.room_wire.RoomWire.{RoomWire}
use Rattle.fed_hub_serving.specs.Brought.{end_place}
use Rattle.fed_hub_serving.specs.Wires.{WiresState, running}

-- an event goes over a wire: not where the wire has ended; else it went, or it came back and the wire has ended at this place
pub data Goes (event : CheckedEvent) (place : EndPlace) (wire : RoomWire) : RoomWire → Type 0 where
  ended : (at : EndPlace) → wire.ended ≡ Some at → Goes event place wire wire
  sent : wire.ended ≡ None → Goes event place wire (running (with_sent wire.end event))
  back : wire.ended ≡ None → Goes event place wire (record { end = with_returned wire.end; ended = Some place })

-- an event goes to its room, if that has a wire and they are not all ended
pub data Passes (bound : Bound) (place : EndPlace) (old : WiresState) : WiresState → Type 0 where
  shut : old.is_shut ≡ true → Passes bound place old old
  nowhere : bound.room ≡ None → Passes bound place old old
  away : (k : ℕ) → bound.room ≡ Some k → length old.wires ≤ k → Passes bound place old old
  goes : (k : ℕ) (wire new : RoomWire) → old.is_shut ≡ false → bound.room ≡ Some k → slice_get old.wires k ≡ Some wire → Goes bound.event place wire new
      → Passes bound place old (record { wires = set old.wires k new; is_shut = old.is_shut })

-- these events went over a wire, in order, each with a credit
abbrev pub with_all_sent : Sender CheckedEvent → List CheckedEvent → Sender CheckedEvent
with_all_sent end events = record { wire = end.wire; sent = end.sent ++ events; returned = end.returned; room = end.room - length events }

-- an event of the room at place k
abbrev pub IsFor : List (List ℕ) → ℕ → CheckedEvent → Type 0
IsFor known k event = place_of known (room_id_of event.event) ≡ Some k

-- The events go to their rooms, and so those for the room at place k over its wire: all went, or those before one that came back, and there it has
-- ended, so many events into this point of the history. Nothing goes over a wire that has ended.
pub data Spread (known : List (List ℕ)) (points k : ℕ) (events : List CheckedEvent) (is_shut : Bool) (wire : RoomWire) : RoomWire → Type 0 where
  shut : is_shut ≡ true → Spread known points k events is_shut wire wire
  ended : (at : EndPlace) → wire.ended ≡ Some at → Spread known points k events is_shut wire wire
  sent : is_shut ≡ false → wire.ended ≡ None → Spread known points k events is_shut wire (running (with_all_sent wire.end (for_place known k events)))
  back : (i : ℕ) (event : CheckedEvent) → is_shut ≡ false → wire.ended ≡ None → slice_get events i ≡ Some event → IsFor known k event
      → Spread known points k events is_shut wire
      (record { end = with_returned (with_all_sent wire.end (for_place known k (take i events))); ended = Some (end_place points i) })

-- over each wire
pub record SpreadAll (known : List (List ℕ)) (points : ℕ) (events : List CheckedEvent) (old new : WiresState) : Type 0 where
  pub count : length new.wires ≡ length old.wires
  pub shut : new.is_shut ≡ old.is_shut
  pub each : (k : ℕ) (wire now : RoomWire) → slice_get old.wires k ≡ Some wire → slice_get new.wires k ≡ Some now → Spread known points k events old.is_shut wire now
