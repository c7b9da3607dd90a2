-- Rooms that begin with some events.
use Rattle.std.proofs.Common.{◌≡◌, List, [], ◌∷◌, ◌++◌, map, refl, sym, ap, ◌∙◌, subst}
use Rattle.fed_event.specs.Checked.{CheckedEvent}
use Rattle.fed_room_contract.specs.declared.input.Input.{Input}
use Rattle.fed_room_contract.specs.declared.input.Input.TheVariants.{Receive}
use Rattle.fed_room_contract.specs.Room.{Rules, RoomState, empty_room, receipt_of, after_receipt}
use Rattle.fed_room_contract.specs.Runs.{room_after, IsRoom, AllMayBeGiven}
use Rattle.fed_room_contract.proofs.Rooms.{room_after-++}
use Rattle.fed_room_contract.proofs.WellFormed.{new_room, inputs_keep}
use Rattle.fed_room.specs.Start.{after_all}

module _ (rules : Rules) where
  pub all_received : (room : RoomState) (events : List CheckedEvent) → after_all rules room events ≡ room_after rules room (map Receive events)
  all_received room [] = refl
  all_received room (event ∷ events) = all_received (after_receipt room event (receipt_of rules room event)) events

  pub all_inputs : (events : List CheckedEvent) (inputs : List Input) → room_after rules (after_all rules empty_room events) inputs ≡ room_after rules empty_room (map Receive events ++ inputs)
  all_inputs events inputs = ap (λ (r : RoomState). room_after rules r inputs) (all_received empty_room events) ∙ sym (room_after-++ rules empty_room (map Receive events) inputs)

  -- an event may be received at any time
  may_be_received : (room : RoomState) (events : List CheckedEvent) → AllMayBeGiven rules room (map Receive events)
  may_be_received room [] = tt
  may_be_received room (event ∷ events) = (tt, may_be_received (after_receipt room event (receipt_of rules room event)) events)

  pub started_well : (events : List CheckedEvent) → IsRoom rules (after_all rules empty_room events)
  started_well events =
      subst (λ (r : RoomState). IsRoom rules r) (sym (all_received empty_room events))
      (inputs_keep rules empty_room (map Receive events) (new_room rules) (may_be_received empty_room events))

  pub stays_well : (events : List CheckedEvent) (inputs : List Input) → AllMayBeGiven rules (after_all rules empty_room events) inputs → IsRoom rules (room_after rules empty_room (map Receive events ++ inputs))
  stays_well events inputs may =
      subst (λ (r : RoomState). IsRoom rules r) (all_inputs events inputs) (inputs_keep rules (after_all rules empty_room events) inputs (started_well events) may)
