use Rattle.std.proofs.Common.{◌≡◌, ◌++◌, drop, map, string_bytes}
use Rattle.fed_room.specs.Creation.{joining, drafts_of}
use Rattle.fed_room.proofs.creation.drafts.Given as goal

-- the drafts so far, and those of the users that are left
abbrev pub invariant-loop-user : goal.invariant-loop-user
invariant-loop-user l = l.drafts.items ++ map (joining l.room) (map string_bytes (drop l.user-index l.others)) ≡ drafts_of l.fn.version l.room l.first (map string_bytes l.others)
