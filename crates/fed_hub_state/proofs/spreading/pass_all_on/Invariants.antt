use Rattle.fed_journal.specs.Offered.{load_of}
use Rattle.fed_hub_state.specs.Spreading.{dests_of}
use Rattle.fed_hub_state.specs.SpreadingParts.{IsUnderWay}
use Rattle.fed_hub_state.proofs.spreading.pass_all_on.Given as goal

-- the load went to some of its destinations, and goes to the others yet
abbrev pub invariant-loop-unplaced : goal.invariant-loop-unplaced
invariant-loop-unplaced g l =
    IsUnderWay g.N.Naming.wires (load_of l.offered) (dests_of l.fn.loads.items) l.fn.journal.entries l.unplaced-iterator.rest.items l.journal l.ends
