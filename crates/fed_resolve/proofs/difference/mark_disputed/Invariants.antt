use Rattle.std.proofs.Common.{◌≡◌, ℕ, length, map, drop}
use Rattle.std.specs.List.{filter_map}
use Rattle.fed_room_contract.specs.Entry.{seen}
use Rattle.fed_resolve.specs.ChainParts.{or_among}
use Rattle.fed_resolve.specs.ConflictParts.{disputed_beside}
use Rattle.fed_resolve.proofs.difference.mark_disputed.Given as goal

-- the marks, and those of the entries that are left, are those at the start and those of all entries
abbrev pub invariant-loop-entry : goal.invariant-loop-entry
invariant-loop-entry l = record {
  long : length l.marks ≡ length l.graph.stored;
  each : (q : ℕ) → or_among (filter_map (disputed_beside l.graph.stored l.agreed) (map seen (drop l.entry-index l.entries))) l.marks q
      ≡ or_among (filter_map (disputed_beside l.graph.stored l.agreed) (map seen l.entries)) l.fn.marks q;
}
