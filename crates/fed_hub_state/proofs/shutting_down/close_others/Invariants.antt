use Rattle.std.proofs.Common.{length}
use Rattle.fed_hub_state.specs.ShuttingDownParts.{IsBeingShut}
use Rattle.fed_hub_state.proofs.shutting_down.close_others.Given as goal

-- the outboxes for those of the first servers are closed
abbrev pub invariant-loop-place : goal.invariant-loop-place
invariant-loop-place g l = IsBeingShut g.N.Naming.wires l.own (length g.N.Naming.wires) l.place l.fn.journal l.journal l.ends
