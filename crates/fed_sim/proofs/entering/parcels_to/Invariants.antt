use Rattle.std.proofs.Common.{◌≡◌, take}
use Rattle.std.specs.List.{filter_map}
use Rattle.fed_journal.specs.Offered.{load_of}
use Rattle.fed_journal.specs.Queues.{parcel_to}
use Rattle.fed_sim.proofs.entering.parcels_to.Given as goal

-- those for the servers that were passed
abbrev pub invariant-loop-dest : goal.invariant-loop-dest
invariant-loop-dest l = l.parcels.items ≡ filter_map (parcel_to l.journal.entries (load_of l.offered)) (take l.dest-index l.dest-items)
