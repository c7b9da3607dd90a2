use Rattle.std.proofs.Common.{◌≡◌, take}
use Rattle.fed_journal.specs.Offered.{load_of}
use Rattle.fed_hub_state.specs.Spreading.{AreAll, dests_of}
use Rattle.fed_hub.proofs.ready.loads.Given as goal

-- a load for each of the first so many
abbrev pub invariant-loop-dest : goal.invariant-loop-dest
invariant-loop-dest l = record {
  dests : dests_of l.loads.items ≡ take l.dest-index l.dest-items;
  same : AreAll (load_of l.offered) l.loads.items;
}
