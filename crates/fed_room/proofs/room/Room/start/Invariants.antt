use Rattle.std.proofs.Common.{◌≡◌, ◌+◌, length}
use Rattle.fed_room_contract.specs.Room.{empty_room}
use Rattle.fed_room.specs.Room.{room_of, room_rules}
use Rattle.fed_room.specs.Start.{after_all, not_taken}
use Rattle.fed_room.proofs.room.Room.start.Given as goal

-- the events so far are taken, and what is left decides
abbrev pub invariant-loop-event : goal.invariant-loop-event
invariant-loop-event l = record {
  count : l.place + length l.event-iterator.rest.items ≡ length l.fn.events.items;
  room : after_all room_rules (room_of l.room) l.event-iterator.rest.items ≡ after_all room_rules empty_room l.fn.events.items;
  faults : not_taken room_rules (l.place + 1) (room_of l.room) l.event-iterator.rest.items ≡ not_taken room_rules 1 empty_room l.fn.events.items;
  own : l.room.own ≡ l.fn.own;
}
