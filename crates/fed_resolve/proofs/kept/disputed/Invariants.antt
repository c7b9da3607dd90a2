use Rattle.std.proofs.Common.{◌≡◌, map, take}
use Rattle.fed_room_contract.specs.Entry.{seen}
use Rattle.fed_room_contract.specs.Steps.{state_at}
use Rattle.fed_resolve.specs.KeptParts.{disputed_of}
use Rattle.fed_resolve.proofs.kept.disputed.Given as goal

-- those of the entries so far
abbrev pub invariant-loop-entry : goal.invariant-loop-entry
invariant-loop-entry l = map seen l.disputed.items ≡ disputed_of l.steps.after (state_at l.steps.after l.first) l.others (map seen (take l.entry-index l.entries))
