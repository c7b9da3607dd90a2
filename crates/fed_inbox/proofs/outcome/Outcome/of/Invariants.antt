use Rattle.std.proofs.Common.{◌≡◌, ◌++◌, map}
use Rattle.fed_json.specs.CanonicalText.{canonical_text}
use Rattle.fed_inbox.specs.ReceivedParts.{received}
use Rattle.fed_inbox.proofs.Entering.{Enters}
use Rattle.fed_inbox.proofs.outcome.Outcome.of.Given as goal

-- what is written, and what is left
abbrev pub invariant-loop-element : goal.invariant-loop-element
invariant-loop-element g l = record {
  texts : l.pdus ++ map canonical_text l.element-iterator.rest.items ≡ map canonical_text l.fn.transaction.pdus.items;
  entered : Enters (g.K.Keys.checks l.keys) l.rooms (received l.received) l.element-iterator.rest.items l.fn.transaction.pdus.items;
}
