-- How many events a room can store after one that came.
use Rattle.std.proofs.Common.{arith, ◌≡◌, ℕ, zero, suc, ◌+◌, ◌≤◌, ◌<◌, ◌∷◌, [], ◌++◌, length, length-append, replicate, Option, Some, None, Result, Ok, Err, IfOk, IfErr, IfSome, refl, sym, ap, ◌∙◌, subst}
use Rattle.fed_room_contract.specs.declared.applying.Applied.{Applied}
use Rattle.fed_room_contract.specs.declared.applying.Stopped.{Stopped}
use Rattle.fed_room_contract.specs.declared.applying.Stopped.TheVariants.{NotReceived, Received}
use Rattle.fed_event.specs.Checked.{CheckedEvent}
use Rattle.fed_room_contract.specs.declared.input.Input.TheVariants.{Receive, Advance}
use Rattle.fed_room_contract.specs.declared.receipt.Receipt.{Receipt}
use Rattle.fed_room_contract.specs.declared.receipt.Receipt.TheVariants as receipt
use Rattle.fed_room_contract.specs.declared.graph.Stored.{Stored}
use Rattle.fed_room_contract.specs.Applying.{received, IsApplied, IsStoppedAfter, IfNotReceived, IfReceived}
use Rattle.fed_room_contract.specs.Room.{Rules, RoomState, event_id, first_ready, with_ready, advanced, after_receipt, receipt_of}
use Rattle.fed_room_contract.specs.Runs.{room_after, AllMayBeGiven}
use Rattle.fed_room_contract.proofs.Rooms.{fewer, advanced_waits_less}
use Rattle.fed_room.specs.Room.{room_of, room_rules}
use Rattle.fed_hub_state.specs.Applying.{EventIsApplied, given, stored_after}
use Rattle.fed_hub_state.specs.KeptRoom.{KeptState}

-- how many events the room has, stored or waiting
abbrev events_in : RoomState → ℕ
events_in room = length room.stored + length room.waiting

one_moves : (rules : Rules) (room : RoomState) → events_in (advanced rules room) ≤ events_in room
one_moves rules room = by (first_ready room) refl
  where
    by : (o : Option CheckedEvent) → first_ready room ≡ o → events_in (advanced rules room) ≤ events_in room
    by None e = subst (λ (o : Option CheckedEvent). events_in (with_ready rules room o) ≤ events_in room) (sym e) (omega arith)
    by (Some event) e =
        let last : Stored = record { event = event; verdict = rules.decide room.stored event } in
        let more : length (advanced rules room).stored ≡ length room.stored + 1 = ap (λ (o : Option CheckedEvent). length (with_ready rules room o).stored) e ∙ length-append room.stored (last ∷ []) in
        let less = advanced_waits_less rules room event e in
        omega arith

some_move : (rules : Rules) (room : RoomState) (n : ℕ) → events_in (room_after rules room (replicate n Advance)) ≤ events_in room
some_move rules room zero = omega arith
some_move rules room (suc n) = omega (arith, some_move rules (advanced rules room) n, one_moves rules room)

waits_more : (room : RoomState) (event : CheckedEvent) (r : Receipt) → length (after_receipt room event r).waiting ≤ length room.waiting + 1
waits_more room event (receipt.Stored verdict) = omega (arith, fewer (event_id event) room.waiting)
waits_more room event receipt.Known = omega arith
waits_more room event receipt.Waiting = omega (arith, length-append room.waiting (event ∷ []))
waits_more room event receipt.Dropped = omega arith

-- after an event that came no more are stored than waited, and one
pub few_more : (rules : Rules) (old : RoomState) (event : CheckedEvent) (more : ℕ) (new : RoomState) → new ≡ room_after rules old (Receive event ∷ replicate more Advance)
    → length new.stored ≡ length (received rules old event).stored + more → more ≤ length old.waiting + 1
few_more rules old event more new after stored =
    let all : events_in new ≤ events_in (received rules old event) =
    subst (λ (r : RoomState). events_in r ≤ events_in (received rules old event)) (sym after) (some_move rules (received rules old event) more) in
    let waiting = waits_more old event (receipt_of rules old event) in
    omega arith

-- ---- what a room was given when an event came to it

advances_may : (rules : Rules) (room : RoomState) (n : ℕ) → AllMayBeGiven rules room (replicate n Advance)
advances_may rules room zero = tt
advances_may rules room (suc n) = (tt, advances_may rules (advanced rules room) n)

module _ (rules : Rules) (old : RoomState) (event : CheckedEvent) (new : RoomState) where
  pub may_be_given : (applied : Result Applied Stopped) → AllMayBeGiven rules old (given event applied)
  may_be_given (Ok told) = (tt, advances_may rules (received rules old event) told.more)
  may_be_given (Err (Received told)) = (tt, advances_may rules (received rules old event) told.more)
  may_be_given (Err (NotReceived back)) = tt

  module _ (applied : Result Applied Stopped) where
    abbrev pub All : Type 0
    All = IfOk applied (λ told. IsApplied rules old event told new) × IfErr applied (λ e. IfNotReceived e (λ back. (back ≡ event) × (new ≡ old))) × IfErr applied (λ e. IfReceived e (λ told. IsStoppedAfter rules old event told new))

  pub after_given : (applied : Result Applied Stopped) → All applied → new ≡ room_after rules old (given event applied)
  after_given (Ok told) so = so.0.inputs
  after_given (Err (Received told)) so = so.2.inputs
  after_given (Err (NotReceived back)) so = so.1.1

  pub few_given : (applied : Result Applied Stopped) → All applied → (free : ℕ) → length old.waiting + 1 < free → IfSome (stored_after applied) (λ more. more < free)
  few_given (Ok told) so free room = let few = few_more rules old event told.more new so.0.inputs so.0.more in omega arith
  few_given (Err (Received told)) so free room = let few = few_more rules old event told.more new so.2.inputs so.2.more in omega arith
  few_given (Err (NotReceived back)) so free room = tt

pub event_is_applied : (event : CheckedEvent) (old new : KeptState) (applied : Result Applied Stopped) → All room_rules (room_of old.room) event (room_of new.room) applied
    → new.start ≡ old.start → new.inputs ≡ old.inputs ++ given event applied → EventIsApplied event old applied new
event_is_applied event old new (Ok told) so start inputs = (so.0, (start, inputs))
event_is_applied event old new (Err (Received told)) so start inputs = (so.2, (start, inputs))
event_is_applied event old new (Err (NotReceived back)) so start inputs = (so.1.0, so.1.1, (start, inputs))
