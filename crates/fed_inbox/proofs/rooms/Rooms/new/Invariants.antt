use Rattle.std.proofs.Common.{◌≡◌, map, string_bytes}
use Rattle.std.specs.BTreeSet.{IsOrdered}
use Rattle.std.specs.String.{string_cmp}
use Rattle.fed_inbox.specs.Rooms.{with_rooms, room_set}
use Rattle.fed_inbox.proofs.rooms.Rooms.new.Given as goal

-- the rooms that are left make the rest of the set
abbrev pub invariant-loop-room : goal.invariant-loop-room
invariant-loop-room l = record {
  left : with_rooms (map string_bytes l.ids.keys) (map string_bytes l.room-iterator.rest.items) ≡ room_set (map string_bytes l.fn.rooms.items);
  ordered : IsOrdered string_cmp l.ids;
}
