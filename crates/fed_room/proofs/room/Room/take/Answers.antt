use Rattle.std.proofs.Common.{true≢false, sym, ap, ◌∙◌, subst}
use Rattle.fed_room_contract.specs.declared.arrival.Arrival.{Arrival}
use Rattle.fed_room_contract.specs.Arrival.{IsTold, IsArrival}
use Rattle.fed_room_contract.specs.Graph.{IsGraph}
use Rattle.fed_room_contract.specs.Room.{receipt_of}
use Rattle.fed_room.specs.Room.{RoomValue, room_of, room_rules}
use Rattle.fed_room.specs.States.{states_after}
use Rattle.fed_room.proofs.Kept.{told-keeps}
use Rattle.fed_room.proofs.room.Room.take.Goals as goal

pub returns-in_err-event-clause-known : goal.returns-in_err-event-clause-known
returns-in_err-event-clause-known c h =
    let none = c.in_err-event.ensures.known room_rules (ap (λ (r : RoomValue). receipt_of room_rules (room_of r) c.args.event) c.self.view_is ∙ h) in
    absurd (true≢false (sym none))

pub returns-in_err-event-clause-dropped : goal.returns-in_err-event-clause-dropped
returns-in_err-event-clause-dropped c h =
    let none = c.in_err-event.ensures.dropped room_rules (ap (λ (r : RoomValue). receipt_of room_rules (room_of r) c.args.event) c.self.view_is ∙ h) in
    absurd (true≢false (sym none))

pub invariant_of-self-in-Told : goal.invariant_of-self-in-Told
invariant_of-self-in-Told c =
    let old = c.self.inside.store in
    let told : IsTold old c.args.event c.in-Told.receipt c.admit.new.self =
    subst (λ (a : Arrival). IsArrival old c.args.event a c.admit.new.self) c.in-Told.is c.in_ok-event.ensures.arrival in
    let same = told-keeps old c.admit.new.self c.args.event c.in-Told.receipt told in
    record { graph = subst IsGraph (sym same) c.self.invariant.graph; after = c.self.invariant.after ∙ ap states_after (sym same) }

pub returns-in-Told-clause-receipt : goal.returns-in-Told-clause-receipt
returns-in-Told-clause-receipt c =
    let told : IsTold c.self.inside.store c.args.event c.in-Told.receipt c.admit.new.self =
    subst (λ (a : Arrival). IsArrival c.self.inside.store c.args.event a c.admit.new.self) c.in-Told.is c.in_ok-event.ensures.arrival in
    sym (ap (λ (r : RoomValue). receipt_of room_rules (room_of r) c.args.event) (sym c.self.view_is) ∙ told.told room_rules)
