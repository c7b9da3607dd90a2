-- What a room under its lock does with an event that comes to it, by the definition of the same step at a server.
use Rattle.std.specs.Prelude.{◌≡◌, ℕ, List, [], ◌∷◌, ◌++◌, Option, Some, None, Result, Ok, Err, replicate}
use Rattle.fed_event.specs.Checked.{CheckedEvent}
use Rattle.fed_room_contract.specs.declared.applying.Applied.{Applied}
use Rattle.fed_room_contract.specs.declared.applying.Stopped.{Stopped}
use Rattle.fed_room_contract.specs.declared.applying.Stopped.TheVariants.{NotReceived, Received}
use Rattle.fed_room_contract.specs.declared.input.Input.{Input}
use Rattle.fed_room_contract.specs.declared.input.Input.TheVariants.{Receive, Advance}
use Rattle.fed_room_contract.specs.Applying.{IsApplied, IsStoppedAfter}
use Rattle.fed_room.specs.Room.{room_of, room_rules}
use Rattle.fed_hub_state.specs.KeptRoom.{KeptState}

-- it was given just these inputs more
abbrev pub IsGiven : List Input → KeptState → KeptState → Type 0
IsGiven more old new = (new.start ≡ old.start) × (new.inputs ≡ old.inputs ++ more)

-- an event that came, and after it so many advances
abbrev pub came : CheckedEvent → ℕ → List Input
came event advances = Receive event ∷ replicate advances Advance

-- The event came and all that was then ready was stored; or memory ran out after it came, or before, and then it comes back. What the room was
-- given is kept.
abbrev pub EventIsApplied : CheckedEvent → KeptState → Result Applied Stopped → KeptState → Type 0
EventIsApplied event old (Ok told) new = IsApplied room_rules (room_of old.room) event told (room_of new.room) × IsGiven (came event told.more) old new
EventIsApplied event old (Err (Received told)) new = IsStoppedAfter room_rules (room_of old.room) event told (room_of new.room) × IsGiven (came event told.more) old new
EventIsApplied event old (Err (NotReceived back)) new = (back ≡ event) × (room_of new.room ≡ room_of old.room) × IsGiven [] old new

-- how many events were stored after one that was received
abbrev pub stored_after : Result Applied Stopped → Option ℕ
stored_after (Ok told) = Some told.more
stored_after (Err (Received told)) = Some told.more
stored_after (Err (NotReceived back)) = None

-- what the room was given
abbrev pub given : CheckedEvent → Result Applied Stopped → List Input
given event (Ok told) = came event told.more
given event (Err (Received told)) = came event told.more
given event (Err (NotReceived back)) = []
