use Rattle.std.proofs.Common.{◌≤◌}
use Rattle.fed_hub.specs.Held.{GoesOn}
use Rattle.fed_hub.proofs.hub.Hub.run_sender.Given as goal

abbrev pub invariant-loop : goal.invariant-loop
invariant-loop g l = record {
  token : GoesOn l.fn.token l.token;
  faults : g.C.Carrier.faults l.fn.carrier ≤ g.C.Carrier.faults l.carrier;
}
