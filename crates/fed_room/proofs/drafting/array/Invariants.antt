use Rattle.std.proofs.Common.{◌≡◌}
use Rattle.fed_room.specs.Parts.{array_of}
use Rattle.fed_room.proofs.Arrays.{with_ids}
use Rattle.fed_room.proofs.drafting.array.Given as goal

-- what is added, and what is left
abbrev pub invariant-loop-id : goal.invariant-loop-id
invariant-loop-id l = with_ids l.id-iterator.rest.items l.array ≡ array_of l.fn.ids.items
