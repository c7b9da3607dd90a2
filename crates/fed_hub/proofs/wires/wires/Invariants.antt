use Rattle.std.proofs.Common.{◌≡◌, length}
use Rattle.fed_hub.specs.Wires.{wires_of, new_senders, new_receivers}
use Rattle.fed_hub.proofs.wires.wires.Given as goal

-- as many as turns, all of them new
abbrev pub invariant-loop : goal.invariant-loop
invariant-loop g l = record {
  count : length (wires_of l.ends.items) ≡ l.counter;
  send : l.ends.items ≡ new_senders (wires_of l.ends.items);
  receive : l.others.items ≡ new_receivers (wires_of l.ends.items);
}
