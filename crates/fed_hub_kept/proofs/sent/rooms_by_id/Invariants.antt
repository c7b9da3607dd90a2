use Rattle.std.proofs.Common.{◌≡◌, ℕ, List, option_map, take}
use Rattle.std.specs.Cmp.Lexicographic.{slice_cmp}
use Rattle.std.specs.Ordering.{nat_cmp}
use Rattle.std.specs.BTreeMap.{get_by}
use Rattle.fed_hub_kept.specs.Sent.{room_at}
use Rattle.fed_hub_kept.proofs.sent.rooms_by_id.Given as goal

-- the rooms so far
abbrev pub invariant-loop-room : goal.invariant-loop-room
invariant-loop-room l = (id : List ℕ) → option_map (λ room. room.now) (get_by (λ key. slice_cmp nat_cmp id key.now) l.by_id) ≡ room_at (take l.room-index l.rooms) id
