use Rattle.std.proofs.Common.{◌∙◌, ap, sym}
use Rattle.fed_event.specs.Checked.{CheckedEvent}
use Rattle.fed_room_contract.specs.declared.receipt.Receipt.TheVariants as receipt
use Rattle.fed_room_contract.specs.Room.{Rules, event_id, advanced}
use Rattle.fed_room_contract.proofs.Rooms.{advances_on, waits_less}
use Rattle.fed_room_contract.proofs.advancing.advance_all.Goals as goal

pub loop-room-smaller-in-Ok-Some : goal.loop-room-smaller-in-Ok-Some
loop-room-smaller-in-Ok-Some g c =
    let now = g.R.RoomEngine.room c.loop-room.room in
    let rules = g.R.RoomEngine.rules c.loop-room.room in
    waits_less (λ (event : CheckedEvent). (event_id event, receipt.Stored (rules.decide now.stored event))) c.in-Ok-Some.field-0-0 rules now (g.R.RoomEngine.room c.advance.new.self)
    c.in-Ok-Some.ensures.after (sym c.in-Ok-Some.field-0-is ∙ c.in-Ok-Some.ensures.stored)

pub loop-room-preserved-in-Ok-Some : goal.loop-room-preserved-in-Ok-Some
loop-room-preserved-in-Ok-Some g c =
    let old = g.R.RoomEngine.room c.args.room.now in
    let now = g.R.RoomEngine.room c.loop-room.room in
    let rules = g.R.RoomEngine.rules c.loop-room.room in
    record {
      advanced = advances_on (λ (event : CheckedEvent). (event_id event, receipt.Stored (rules.decide now.stored event))) c.in-Ok-Some.field-0-0 (g.R.RoomEngine.rules c.args.room.now) old now
          (g.R.RoomEngine.room c.advance.new.self) c.loop-room.invariant.advanced (c.in-Ok-Some.ensures.after ∙ ap (λ (r : Rules). advanced r now) c.loop-room.invariant.rules)
          (sym c.in-Ok-Some.field-0-is ∙ c.in-Ok-Some.ensures.stored);
      rules = c.in-Ok-Some.ensures.rules ∙ c.loop-room.invariant.rules;
    }
