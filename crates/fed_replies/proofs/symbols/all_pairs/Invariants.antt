use Rattle.std.proofs.Common.{◌≡◌, length}
use Rattle.fed_replies.specs.Symbols.{ArePairs}
use Rattle.fed_replies.proofs.symbols.all_pairs.Given as goal

abbrev pub invariant-pairs : goal.invariant-pairs
invariant-pairs l = record {
  size : length l.pairs.items ≡ l.number;
  all : ArePairs l.pairs.items;
}
