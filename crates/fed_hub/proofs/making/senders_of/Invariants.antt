use Rattle.std.proofs.Common.{◌≡◌, ◌+◌, length}
use Rattle.fed_hub.specs.Tokens.{senders_new}
use Rattle.fed_hub.proofs.Waiting.{AreWaiting}
use Rattle.fed_hub.proofs.making.senders_of.Given as goal

abbrev pub invariant-loop-end : goal.invariant-loop-end
invariant-loop-end g l = record {
  count : l.place + length l.end-iterator.rest.items ≡ length g.N.Naming.wires;
  made : l.senders.items ≡ senders_new l.place l.own;
  left : AreWaiting g.N.Naming.wires l.place l.end-iterator.rest.items;
}
