use Rattle.std.proofs.Common.{◌≡◌, ◌+◌, length}
use Rattle.fed_hub.specs.Tokens.{rooms_new}
use Rattle.fed_hub.proofs.Waiting.{AreWaiting}
use Rattle.fed_hub.proofs.making.room_tokens_of.Given as goal

abbrev pub invariant-loop-end : goal.invariant-loop-end
invariant-loop-end g l = record {
  made : l.tokens.items ≡ rooms_new (length l.tokens.items);
  count : length l.tokens.items + length l.end-iterator.rest.items ≡ length g.N.ServingNaming.rooms;
  left : AreWaiting g.N.ServingNaming.rooms (length l.tokens.items) l.end-iterator.rest.items;
}
