use Rattle.std.proofs.Common.{◌<◌, All, length}
use Rattle.fed_resolve.specs.Order.{is_among}
use Rattle.fed_resolve.specs.ReadyParts.{IsReadySet}
use Rattle.fed_resolve.proofs.ready.ReadySet.wake.Given as goal

-- those that were not looked at are left out
abbrev pub invariant-loop-index : goal.invariant-loop-index
invariant-loop-index g l = record {
  within : All (λ index. index < length l.candidates) l.index-iterator.rest.items;
  ready : IsReadySet (is_among l.index-iterator.rest.items) l.is_listed l.candidates l.self;
}
