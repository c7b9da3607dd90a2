use Rattle.std.proofs.Common.{◌≡◌, map, vec_len}
use Rattle.std.specs.FinMap as finite
use Rattle.fed_room_contract.specs.Entry.{seen}
use Rattle.fed_room.proofs.Laid.{laid}
use Rattle.fed_room.proofs.entries.state_of.Given as goal

-- what is left decides
abbrev pub invariant-loop-entry : goal.invariant-loop-entry
invariant-loop-entry l = laid (map seen l.entries.items) l.state ≡ finite.from_entries (map seen l.initial.entries.items)

abbrev pub decreases-loop-entry : goal.decreases-loop-entry
decreases-loop-entry l = vec_len l.entries
