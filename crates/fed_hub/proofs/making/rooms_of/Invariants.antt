use Rattle.std.proofs.Common.{◌≡◌, ◌+◌, ◌||◌, ℕ, List, length}
use Rattle.fed_dest.specs.List.{has_doubled}
use Rattle.fed_hub.specs.Setup.{has_room, ids_of}
use Rattle.fed_hub.proofs.Doubles.{doubled_yet}
use Rattle.fed_hub.proofs.making.rooms_of.Given as goal

-- those taken in and those left are all, and two of all are one where that is found yet
abbrev pub invariant-loop-room : goal.invariant-loop-room
invariant-loop-room l = record {
  all : (id : List ℕ) → (has_room l.all.ids id || has_room (ids_of l.room-iterator.rest.items) id) ≡ has_room (ids_of l.fn.rooms.items) id;
  count : l.all.count + length l.room-iterator.rest.items ≡ length l.fn.rooms.items;
  doubled : doubled_yet l.all.ids (ids_of l.room-iterator.rest.items) ≡ has_doubled (ids_of l.fn.rooms.items);
}
