-- What the thread of a room does with the events that come over the room's wire (Matrix, Server-Server API, "Checks performed on receipt of a
-- PDU").
use Rattle.std.specs.Prelude.{◌≡◌, ◌≤◌, ℕ, true, List, [], ◌∷◌, ◌++◌, length, Option, Some, None, Ok, Err}
use mathlib.Core.List.{IsPrefix}
use Rattle.fed_event.specs.Checked.{CheckedEvent}
use Rattle.fed_room_contract.specs.declared.applying.Applied.{Applied}
use Rattle.fed_room_contract.specs.declared.applying.Stopped.TheVariants.{NotReceived, Received}
use Rattle.fed_hub_state.specs.Applying.{EventIsApplied}
use Rattle.fed_hub_state.specs.KeptRoom.{KeptState}
use Rattle.fed_hub_rooms.specs.declared.ran.Ran.{Ran}
use Rattle.fed_hub_rooms.specs.declared.ran.Ran.TheVariants.{Drained, TurnsSpent, Memory}
use Rattle.fed_hub_rooms.specs.Access.{WhereKnown}
use Rattle.fed_hub_rooms.specs.RoomHeld.{RoomHeld}

-- it is for the same room, what came over the wire is a front of what came in the end, and these events were given
pub record GoesOn (events : List CheckedEvent) (old new : RoomHeld) : Type 0 where
  pub room : new.room ≡ old.room
  pub received : IsPrefix old.received new.received
  pub given : new.given ≡ old.given ++ events

-- these events came to the room, one after another, and each time all that was then ready was stored
abbrev pub AreApplied : List CheckedEvent → KeptState → KeptState → Type 0
AreApplied [] old new = new ≡ old
AreApplied (event ∷ events) old new = (told : Applied) × (next : KeptState) × EventIsApplied event old (Ok told) next × AreApplied events next new

-- These events came to the room, and memory ran out: before the next one was given, which is in hand; before the room received it; or behind the
-- last of them, when not all that was ready was stored.
pub data RunsOut (hand : Option CheckedEvent) (given : List CheckedEvent) (old new : KeptState) : Type 0 where
  not_given : (event : CheckedEvent) → hand ≡ Some event → AreApplied given old new → RunsOut hand given old new
  not_received : (event : CheckedEvent) (next : KeptState) → hand ≡ Some event → AreApplied given old next → EventIsApplied event next (Err (NotReceived event)) new
      → RunsOut hand given old new
  not_all_stored : (before : List CheckedEvent) (event : CheckedEvent) (told : Applied) (next : KeptState) → given ≡ before ++ event ∷ [] → AreApplied before old next
      → EventIsApplied event next (Err (Received told)) new → RunsOut hand given old new

-- what became of the room, by what is told
abbrev pub Became : Ran → Option CheckedEvent → List CheckedEvent → KeptState → KeptState → Type 0
Became Drained hand given old new = AreApplied given old new
Became TurnsSpent hand given old new = AreApplied given old new
Became Memory hand given old new = RunsOut hand given old new

-- where it ends: nothing more comes and nothing is in hand; or as many events were given as there were turns; or at want of memory
abbrev pub EndsSo : Ran → ℕ → List CheckedEvent → RoomHeld → Type 0
EndsSo Drained turns given new = (new.gone ≡ true) × (new.hand ≡ None)
EndsSo TurnsSpent turns given new = length given ≡ turns
EndsSo Memory turns given new = Unit {0}

-- In at most so many turns these events were given: the token goes on by them, and so does the room where its state is known.
pub record RoomRuns (turns : ℕ) (old : RoomHeld) (room : Option KeptState) (ran : Ran) (new : RoomHeld) (after : Option KeptState) : Type 0 where
  pub given : List CheckedEvent
  pub goes_on : GoesOn given old new
  pub became : WhereKnown (Became ran new.hand given) room after
  pub most : length given ≤ turns
  pub ends : EndsSo ran turns given new
