use Rattle.std.proofs.Common.{◌≡◌, ◌||◌, map, take}
use Rattle.std.specs.FinMap as finite
use Rattle.fed_room_contract.specs.Entry.{seen}
use Rattle.fed_room_contract.specs.State.{StateKey}
use Rattle.fed_room_contract.proofs.Changes.{has_key}
use Rattle.fed_room_contract.proofs.differing.add_entries.Given as goal

-- the keys of the entries so far
abbrev pub invariant-loop-entry : goal.invariant-loop-entry
invariant-loop-entry l = (key : StateKey) → finite.contains_key l.keys key ≡ (finite.contains_key l.fn.keys key || has_key (map seen (take l.entry-index l.entry-items)) key)
