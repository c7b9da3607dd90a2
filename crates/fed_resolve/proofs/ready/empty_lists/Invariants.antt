use Rattle.std.proofs.Common.{◌≡◌, [], All, length}
use Rattle.fed_resolve.proofs.ready.empty_lists.Given as goal

abbrev pub invariant-loop : goal.invariant-loop
invariant-loop l = record {
  long : length l.lists.items ≡ l.counter;
  empty : All (λ list. list.items ≡ []) l.lists.items;
}
