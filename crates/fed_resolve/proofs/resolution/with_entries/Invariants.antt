use Rattle.std.proofs.Common.{◌≡◌, map, drop}
use Rattle.std.specs.FinMap as finite
use Rattle.fed_room_contract.specs.Entry.{seen}
use Rattle.fed_resolve.specs.Resolution.{with_entries}
use Rattle.fed_resolve.proofs.resolution.with_entries.Given as goal

-- what is left decides
abbrev pub invariant-loop-entry : goal.invariant-loop-entry
invariant-loop-entry l = with_entries l.fn.state (finite.entries l.other) ≡ with_entries l.all (map seen (drop l.entry-index l.entry-items))
