use Rattle.std.proofs.Common.{true≢false, sym, ap, ◌∙◌, subst}
use Rattle.fed_room_contract.specs.declared.arrival.Arrival.{Arrival}
use Rattle.fed_room_contract.specs.Arrival.{IsTold, IsArrival}
use Rattle.fed_room_contract.specs.Room.{receipt_of}
use Rattle.fed_room.specs.TableRoom.{TableRoomState, room_of, rules_of}
use Rattle.fed_room.proofs.table_room.TableRoomRoomEngine.receive.Goals as goal

pub returns-in_err-event-clause-known : goal.returns-in_err-event-clause-known
returns-in_err-event-clause-known c h =
    let rules = rules_of c.args.self.now.table in
    let none = c.in_err-event.ensures.known rules (ap (λ (r : TableRoomState). receipt_of rules (room_of r) c.args.event) c.self.view_is ∙ h) in
    absurd (true≢false (sym none))

pub returns-in_err-event-clause-dropped : goal.returns-in_err-event-clause-dropped
returns-in_err-event-clause-dropped c h =
    let rules = rules_of c.args.self.now.table in
    let none = c.in_err-event.ensures.dropped rules (ap (λ (r : TableRoomState). receipt_of rules (room_of r) c.args.event) c.self.view_is ∙ h) in
    absurd (true≢false (sym none))

pub returns-in-Told-clause-receipt : goal.returns-in-Told-clause-receipt
returns-in-Told-clause-receipt c =
    let rules = rules_of c.args.self.now.table in
    let told : IsTold c.self.inside.store c.args.event c.in-Told.receipt c.admit.new.self =
    subst (λ (a : Arrival). IsArrival c.self.inside.store c.args.event a c.admit.new.self) c.in-Told.is c.in_ok-event.ensures.arrival in
    sym (ap (λ (r : TableRoomState). receipt_of rules (room_of r) c.args.event) (sym c.self.view_is) ∙ told.told rules)
