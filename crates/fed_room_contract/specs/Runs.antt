-- A room over a list of inputs.
use Rattle.std.specs.Prelude.{◌≡◌, ◌≤◌, ◌+◌, ◌==◌, ℕ, List, [], ◌∷◌, ◌++◌, true, false, if◌then◌else◌, Option, Some, None, length, map, replicate, refl}
use Rattle.std.specs.Coded.{Coded, code_by, coded×, coded_ℕ, coded_option}
use Rattle.std.specs.List.{IsDistinct}
use Rattle.std.specs.Str.{bytes_eq}
use Rattle.fed_event.specs.Checked.{CheckedEvent, checked_code}
use Rattle.fed_room_contract.specs.declared.input.Input.{Input}
use Rattle.fed_room_contract.specs.declared.input.Input.TheVariants.{Receive, Advance, Commit}
use Rattle.fed_room_contract.specs.declared.verdict.Verdict.TheVariants.{Accepted}
use Rattle.fed_room_contract.specs.declared.graph.Stored.{Stored}
use Rattle.fed_room_contract.specs.Graph.{IsGraph, is_stored, is_ready}
use Rattle.fed_room_contract.specs.Room.{Rules, RoomState, event_id, none_stored, most_waiting, receipt_of, after_receipt, advanced, committed}

-- an event is received, the first waiting one that is ready is stored, or an event that was prepared is stored
abbrev pub after_input : Rules → RoomState → Input → RoomState
after_input rules room (Receive event) = after_receipt room event (receipt_of rules room event)
after_input rules room Advance = advanced rules room
after_input rules room (Commit event) = committed room event

-- the room after the inputs, one after another
abbrev pub room_after : Rules → RoomState → List Input → RoomState
room_after rules room [] = room
room_after rules room (input ∷ inputs) = room_after rules (after_input rules room input) inputs

-- ---- what holds of a room, whatever it is given

-- an event that is ready and that the rules accept
pub record IsAcceptable (rules : Rules) (room : RoomState) (event : CheckedEvent) : Type 0 where
  pub ready : is_ready room.stored event.event ≡ true
  pub accepted : rules.decide room.stored event ≡ Accepted

-- an event is committed only where it is stored already, or is one of those
abbrev pub MayBeGiven : Rules → RoomState → Input → Type 0
MayBeGiven rules room (Receive event) = Unit {0}
MayBeGiven rules room Advance = Unit {0}
MayBeGiven rules room (Commit event) = is_stored room.stored (event_id event) ≡ false → IsAcceptable rules room event

-- each input at its time
abbrev pub AllMayBeGiven : Rules → RoomState → List Input → Type 0
AllMayBeGiven rules room [] = Unit {0}
AllMayBeGiven rules room (input ∷ inputs) = MayBeGiven rules room input × AllMayBeGiven rules (after_input rules room input) inputs

-- the stored events are a graph, and each has the verdict of the rules over those before it; the waiting ones are different, not stored,
-- and no more than may wait
pub record IsRoom (rules : Rules) (room : RoomState) : Type 0 where
  pub graph : IsGraph room.stored
  pub decided : (before : List Stored) (next : Stored) (after : List Stored) → room.stored ≡ before ++ next ∷ after → next.verdict ≡ rules.decide before next.event
  pub apart : none_stored room.stored room.waiting ≡ true
  pub different : IsDistinct bytes_eq (map event_id room.waiting)
  pub few : length room.waiting ≤ most_waiting

-- ---- storing all that is ready

-- a room that advanced so many times, and stored an event each time
pub record IsAdvanced (rules : Rules) (times : ℕ) (old new : RoomState) : Type 0 where
  pub after : new ≡ room_after rules old (replicate times Advance)
  pub stored : length new.stored ≡ length old.stored + times

-- ---- how an input is stored where a contract keeps one

abbrev pub input_parts : Input → ℕ × Option CheckedEvent
input_parts (Receive event) = (0, Some event)
input_parts Advance = (1, None)
input_parts (Commit event) = (2, Some event)

abbrev pub input_of : ℕ × Option CheckedEvent → Input
input_of (kind, Some event) = if kind == 0 then Receive event else Commit event
input_of (kind, None) = Advance

pub input_of-input_parts : (input : Input) → input_of (input_parts input) ≡ input
input_of-input_parts (Receive event) = refl
input_of-input_parts Advance = refl
input_of-input_parts (Commit event) = refl

abbrev pub input_code : Coded Input
input_code = code_by (ℕ × Option CheckedEvent) (coded× coded_ℕ (coded_option checked_code)) input_parts input_of input_of-input_parts
